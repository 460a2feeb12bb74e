-- Checks taken in order, once for every list of them: a refusal is given exactly when its condition holds and none earlier does. Assumes nothing.
use mathlib.Core.Logic.{◌↔◌, ◌⊎◌, inl, inr}
use mathlib.Core.Path.{◌≡◌, refl, sym, ap, subst, ◌∙◌}
use mathlib.Core.Bool.{Bool, true, false}
use mathlib.Core.List.{List, [], ◌∷◌, ◌++◌, append-nil}
use Prim.Native.Nat.{ℕ}
use native.Mathlib.Omega.{arith}
use Rattle.refusal.specs.Words.{Told, taken, refused, number_in, Check, checked, pick}
use Rattle.refusal.specs.Order.{Passed, First}

-- a result is no refusal
pub clash : {A : Type 0} (a : A) (n : ℕ) (values : List ℕ) → taken a ≡ refused n values → ⊥
clash a n values e = let z : ◌≡◌ {A = ℕ} 0 1 = cc in omega arith

-- where all checks pass, what is then to be told is told
pub passing : {A : Type 0} (cs : List Check) (t : Told A) → Passed cs → checked cs t ≡ t
passing [] t p = refl
passing (c ∷ cs) t p = rw p.0 (passing cs t p.1)

-- the check whose refusal is told is the first that fails, by its place: two checks of a list may bear one number
pub given : {A : Type 0} (before : List Check) (c : Check) (after : List Check) (t : Told A) → Passed before → c.fails ≡ true
    → checked (before ++ c ∷ after) t ≡ refused c.number c.values
given [] c after t p f = rw f
given (b ∷ before) c after t p f = rw p.0 (given before c after t p.1 f)

-- one check that passes, before the first that fails
further : (c : Check) (cs : List Check) (n : ℕ) (values : List ℕ) → c.fails ≡ false → First cs n values → First (c ∷ cs) n values
further c cs n values p f = record {
  before = c ∷ f.before;
  named = f.named;
  after = f.after;
  stands = ap (λ (l : List Check). c ∷ l) f.stands;
  passed = (p, f.passed);
  fails = f.fails;
  number = f.number;
  told = f.told;
}

pub found : {A : Type 0} (cs : List Check) (t : Told A) (n : ℕ) (values : List ℕ) → checked cs t ≡ refused n values
    → First cs n values ⊎ (Passed cs × (t ≡ refused n values))
found [] t n values e = inr (tt, e)
found (c ∷ cs) t n values e = go c.fails refl e (found cs t n values) where
  go : (f : Bool) → c.fails ≡ f → pick f (refused c.number c.values) (checked cs t) ≡ refused n values
      → (checked cs t ≡ refused n values → First cs n values ⊎ (Passed cs × (t ≡ refused n values)))
      → First (c ∷ cs) n values ⊎ (Passed (c ∷ cs) × (t ≡ refused n values))
  go true p e more = inl (record { before = []; named = c; after = cs; stands = refl; passed = tt; fails = p; number = cc; told = cc })
  go false p e more = on (more e) where
    on : First cs n values ⊎ (Passed cs × (t ≡ refused n values)) → First (c ∷ cs) n values ⊎ (Passed (c ∷ cs) × (t ≡ refused n values))
    on (inl f) = inl (further c cs n values p f)
    on (inr q) = inr ((p, q.0), q.1)

first-told : {A : Type 0} (cs : List Check) (t : Told A) (n : ℕ) (values : List ℕ) → First cs n values → checked cs t ≡ refused n values
first-told cs t n values f =
    let e : checked (f.before ++ f.named ∷ f.after) t ≡ refused f.named.number f.named.values =
    given f.before f.named f.after t f.passed f.fails in
    ap (λ (l : List Check). checked l t) f.stands ∙ e ∙ ap (λ (m : ℕ). refused m f.named.values) f.number ∙ ap (refused n) f.told

-- the theorem, of any list of checks and of whatever is told where all of them pass
pub exactly_told : {A : Type 0} (cs : List Check) (t : Told A) (n : ℕ) (values : List ℕ)
    → (checked cs t ≡ refused n values) ↔ (First cs n values ⊎ (Passed cs × (t ≡ refused n values)))
exactly_told {A} cs t n values = (found cs t n values, back) where
  back : First cs n values ⊎ (Passed cs × (t ≡ refused n values)) → checked cs t ≡ refused n values
  back (inl f) = first-told cs t n values f
  back (inr p) = passing cs t p.0 ∙ p.1

-- and of a call that is taken where all of them pass: a refusal is given exactly if a check gives it and none before that one fails
pub exactly : {A : Type 0} (cs : List Check) (a : A) (n : ℕ) (values : List ℕ) → (checked cs (taken a) ≡ refused n values) ↔ First cs n values
exactly {A} cs a n values = (λ e. on (found cs (taken a) n values e), first-told cs (taken a) n values) where
  on : First cs n values ⊎ (Passed cs × (taken a ≡ refused n values)) → First cs n values
  on (inl f) = f
  on (inr p) = absurd (clash a n values p.1)

-- checks that are followed by others: where all of them pass the others decide, and where one fails it is told
pub later : {A : Type 0} (before after : List Check) (t : Told A) → Passed before → checked (before ++ after) t ≡ checked after t
later [] after t p = refl
later (b ∷ before) after t p = rw p.0 (later before after t p.1)

pub stops : {A B : Type 0} (before after : List Check) (a : A) (t : Told B) (n : ℕ) (values : List ℕ)
    → checked before (taken a) ≡ refused n values → checked (before ++ after) t ≡ refused n values
stops [] after a t n values e = absurd (clash a n values e)
stops (b ∷ before) after a t n values e = go b.fails e (stops before after a t n values) where
  go : (f : Bool) → pick f (refused b.number b.values) (checked before (taken a)) ≡ refused n values
      → (checked before (taken a) ≡ refused n values → checked (before ++ after) t ≡ refused n values)
      → pick f (refused b.number b.values) (checked (before ++ after) t) ≡ refused n values
  go true e more = cc
  go false e more = more e

pub passed : {A : Type 0} (cs : List Check) (a b : A) → checked cs (taken a) ≡ taken b → Passed cs
passed [] a b e = tt
passed (c ∷ cs) a b e = go c.fails refl e (passed cs a b) where
  go : (f : Bool) → c.fails ≡ f → pick f (refused c.number c.values) (checked cs (taken a)) ≡ taken b
      → (checked cs (taken a) ≡ taken b → Passed cs) → (c.fails ≡ false) × Passed cs
  go true p e more = absurd (clash b c.number c.values (sym e))
  go false p e more = (p, more e)

-- what passes is what was to be taken
pub taken_same : {A : Type 0} (cs : List Check) (a b : A) → checked cs (taken a) ≡ taken b → a ≡ b
taken_same [] a b e = cc
taken_same (c ∷ cs) a b e = go c.fails e (taken_same cs a b) where
  go : (f : Bool) → pick f (refused c.number c.values) (checked cs (taken a)) ≡ taken b → (checked cs (taken a) ≡ taken b → a ≡ b) → a ≡ b
  go true e more = absurd (clash b c.number c.values (sym e))
  go false e more = more e

-- what checks tell does not depend on what is to be taken
pub failing : {A B : Type 0} (cs : List Check) (a : A) (t : Told B) (n : ℕ) (values : List ℕ) → checked cs (taken a) ≡ refused n values
    → checked cs t ≡ refused n values
failing cs a t n values e = rw append-nil at (stops cs [] a t n values e)

-- the number told is one that a check bears: what holds of each holds of it
abbrev pub Each : (ℕ → Type 0) → List Check → Type 0
Each P [] = Unit {0}
Each P (c ∷ cs) = P c.number × Each P cs

pub told-each : {A : Type 0} (P : ℕ → Type 0) (cs : List Check) (a : A) (n : ℕ) (values : List ℕ) → Each P cs → checked cs (taken a) ≡ refused n values → P n
told-each P [] a n values h e = absurd (clash a n values e)
told-each P (c ∷ cs) a n values h e = go c.fails e (told-each P cs a n values h.1) where
  go : (f : Bool) → pick f (refused c.number c.values) (checked cs (taken a)) ≡ refused n values → (checked cs (taken a) ≡ refused n values → P n) → P n
  go true e more = let z : c.number ≡ n = ap number_in e in subst P z h.0
  go false e more = more e
