-- Rows that tell the number at one place in words: what they print is found by computing it for each number up to a cap, beyond which no test tells numbers
-- apart. Assumes nothing.
use Prim.Native.Nat.{ℕ, zero, suc, ◌+◌, ◌≤◌, ◌<◌, min}
use native.Mathlib.Omega.{arith}
use mathlib.Core.Path.{◌≡◌, refl, sym, ap, ◌∙◌}
use mathlib.Core.Bool.{Bool, true, false, not, ◌&&◌}
use mathlib.Core.List.{List, [], ◌∷◌, ◌++◌}
use lib.Dec.{T, eqb, leb, ltb, eqb→eq, leb→le, ltb→lt}
use lib.ListN.{length, get_or, replicate, length-replicate}
use lib.Seq.{get_or-append-add}
use borrow.Author.Tests.{leb-true, leb-false, le-ltb, le-leb, ne_eqb}
use Rattle.face_rows.specs.Rows.{Test, always, is, is_not, least, below, Value, nothing, number, signed, tenths, degrees, quoted, hexed, pattern}
use Rattle.face_rows.specs.Rows.{letter, pair, float, Row, holds, value_text, printed, printed_from}
use Rattle.face_rows.proofs.Says.{Says, said, both, closed, own_says}

-- ---- rows that say the same over two layouts
-- a test of the one place, against a number that the cap is not below
abbrev capped : ℕ → ℕ → Test → Bool
capped place cap always = true
capped place cap (is p n) = eqb p place && ltb n cap
capped place cap (is_not p n) = eqb p place && ltb n cap
capped place cap (least p n) = eqb p place && leb n cap
capped place cap (below p n) = eqb p place && leb n cap

abbrev is_nothing : Value → Bool
is_nothing nothing = true
is_nothing (number p) = false
is_nothing (signed p) = false
is_nothing (tenths p) = false
is_nothing (degrees p) = false
is_nothing (quoted p s) = false
is_nothing (hexed p s) = false
is_nothing (pattern p) = false
is_nothing (letter p) = false
is_nothing (pair p) = false
is_nothing (float p) = false

-- rows of such tests, with words alone
abbrev tellable : ℕ → ℕ → List Row → Bool
tellable place cap [] = true
tellable place cap (r ∷ rows) = (capped place cap r.when && is_nothing r.value) && tellable place cap rows

-- a layout with one number
abbrev only : ℕ → ℕ → List ℕ
only place n = replicate place 0 ++ n ∷ []

module _ (numbers texts : List ℕ) (place cap n : ℕ) (there : get_or numbers place 0 ≡ n) where
  abbrev lone : List ℕ
  lone = only place (min n cap)

  at_only : get_or lone place 0 ≡ min n cap
  at_only =
      let zeros : List ℕ = replicate place 0 in
      let z : place ≡ length zeros + 0 = omega (arith, length-replicate {A = ℕ} place 0) in
      ap (λ (k : ℕ). get_or lone k 0) z ∙ get_or-append-add zeros (min n cap ∷ []) 0 0

  -- numbers from the cap on pass the same tests
  module _ (k : ℕ) where
    equal : k < cap → eqb n k ≡ eqb (min n cap) k
    equal h = go (leb n cap) refl
      where
        go : (b : Bool) → leb n cap ≡ b → eqb n k ≡ eqb (min n cap) k
        go true e = let z : min n cap ≡ n = omega (arith, leb-true n cap e) in rw z
        go false e =
            let l = leb-false n cap e in
            let z : min n cap ≡ cap = omega arith in
            rw (z, ne_eqb n k (λ i. omega arith), ne_eqb cap k (λ i. omega arith))

    reaches : k ≤ cap → leb k n ≡ leb k (min n cap)
    reaches h = go (leb n cap) refl
      where
        go : (b : Bool) → leb n cap ≡ b → leb k n ≡ leb k (min n cap)
        go true e = let z : min n cap ≡ n = omega (arith, leb-true n cap e) in rw z
        go false e =
            let l = leb-false n cap e in
            let z : min n cap ≡ cap = omega arith in
            rw (z, le-leb k n (omega arith), le-leb k cap h)

    under : k ≤ cap → ltb n k ≡ ltb (min n cap) k
    under h = go (leb n cap) refl
      where
        go : (b : Bool) → leb n cap ≡ b → ltb n k ≡ ltb (min n cap) k
        go true e = let z : min n cap ≡ n = omega (arith, leb-true n cap e) in rw z
        go false e =
            let l = leb-false n cap e in
            let z : min n cap ≡ cap = omega arith in
            rw (z, le-ltb n k (omega arith), le-ltb cap k h)

  here : (p : ℕ) → T (eqb p place) → (get_or numbers p 0 ≡ n) × (get_or lone p 0 ≡ min n cap)
  here p h = let z = eqb→eq p place h in (ap (λ (k : ℕ). get_or numbers k 0) z ∙ there, ap (λ (k : ℕ). get_or lone k 0) z ∙ at_only)

  same : (t : Test) → T (capped place cap t) → holds numbers t ≡ holds lone t
  same always h = refl
  same (is p k) h =
      let a = both (eqb p place) (ltb k cap) h in
      let w = here p a.0 in
      ap (λ (x : ℕ). eqb x k) w.0 ∙ equal k (ltb→lt k cap a.1) ∙ ap (λ (x : ℕ). eqb x k) (sym w.1)
  same (is_not p k) h =
      let a = both (eqb p place) (ltb k cap) h in
      let w = here p a.0 in
      ap (λ (x : ℕ). not (eqb x k)) w.0 ∙ ap not (equal k (ltb→lt k cap a.1)) ∙ ap (λ (x : ℕ). not (eqb x k)) (sym w.1)
  same (least p k) h =
      let a = both (eqb p place) (leb k cap) h in
      let w = here p a.0 in
      ap (leb k) w.0 ∙ reaches k (leb→le k cap a.1) ∙ ap (leb k) (sym w.1)
  same (below p k) h =
      let a = both (eqb p place) (leb k cap) h in
      let w = here p a.0 in
      ap (λ (x : ℕ). ltb x k) w.0 ∙ under k (leb→le k cap a.1) ∙ ap (λ (x : ℕ). ltb x k) (sym w.1)

  silent : (v : Value) → T (is_nothing v) → value_text numbers texts v ≡ value_text lone [] v
  silent nothing h = refl
  silent (number p) h = absurd h
  silent (signed p) h = absurd h
  silent (tenths p) h = absurd h
  silent (degrees p) h = absurd h
  silent (quoted p s) h = absurd h
  silent (hexed p s) h = absurd h
  silent (pattern p) h = absurd h
  silent (letter p) h = absurd h
  silent (pair p) h = absurd h
  silent (float p) h = absurd h

  -- the parts of what is asked of a first row
  parts : (r : Row) (rows : List Row) → T (tellable place cap (r ∷ rows))
      → (T (capped place cap r.when) × T (is_nothing r.value)) × T (tellable place cap rows)
  parts r rows h =
      let a = both (capped place cap r.when && is_nothing r.value) (tellable place cap rows) h in
      (both (capped place cap r.when) (is_nothing r.value) a.0, a.1)

  printed_same : (k : ℕ) (rows : List Row) → T (tellable place cap rows) → printed_from k rows numbers texts ≡ printed_from k rows lone []
  unfolding printed_from
  printed_same k [] h = refl
  printed_same zero (r ∷ rows) h =
      let a = parts r rows h in
      rw (same r.when a.0.0, silent r.value a.0.1, printed_same 0 rows a.1, printed_same r.span rows a.1)
  printed_same (suc k) (r ∷ rows) h = printed_same k rows (parts r rows h).1

-- ---- the numbers up to the cap, one by one
abbrev eq_list : List ℕ → List ℕ → Bool
eq_list [] [] = true
eq_list [] (y ∷ b) = false
eq_list (x ∷ a) [] = false
eq_list (x ∷ a) (y ∷ b) = eqb x y && eq_list a b

eq_list_lem : (a b : List ℕ) → T (eq_list a b) → a ≡ b
eq_list_lem [] [] h = refl
eq_list_lem [] (y ∷ b) h = absurd h
eq_list_lem (x ∷ a) [] h = absurd h
eq_list_lem (x ∷ a) (y ∷ b) h =
    let w = both (eqb x y) (eq_list a b) h in
    rw (eqb→eq x y w.0, eq_list_lem a b w.1)

abbrev pub up_to : ℕ → (ℕ → Bool) → Bool
up_to zero f = f zero
up_to (suc k) f = f (suc k) && up_to k f

pub at_most : (k : ℕ) (f : ℕ → Bool) → T (up_to k f) → (n : ℕ) → n ≤ k → T (f n)
at_most zero f h n l = let z : n ≡ 0 = omega arith in rw z h
at_most (suc k) f h n l = go (leb n k) refl (at_most k f (both (f (suc k)) (up_to k f) h).1 n)
  where
    go : (b : Bool) → leb n k ≡ b → (n ≤ k → T (f n)) → T (f n)
    go true e before = before (leb-true n k e)
    go false e before = let z : n ≡ suc k = omega (arith, leb-false n k e) in rw z (both (f (suc k)) (up_to k f) h).0

-- what rows say of each number up to the cap
abbrev pub Tells : ℕ → ℕ → List Row → (ℕ → List ℕ) → Type 0
Tells place cap rows said = T (closed rows && (tellable place cap rows && up_to cap (λ (k : ℕ). eq_list (printed rows (only place k) []) (said k))))

pub chosen_says : {numbers texts : List ℕ} (place cap : ℕ) (rows : List Row) (said : ℕ → List ℕ) → Tells place cap rows said → (n : ℕ)
    → get_or numbers place 0 ≡ n → said (min n cap) ≡ said n → Says numbers texts rows (said n)
chosen_says {numbers} {texts} place cap rows told checked n there e =
    let all : ℕ → Bool = λ k. eq_list (printed rows (only place k) []) (told k) in
    let v = both (closed rows) (tellable place cap rows && up_to cap all) checked in
    let w = both (tellable place cap rows) (up_to cap all) v.1 in
    let at_n : printed rows (only place (min n cap)) [] ≡ told (min n cap) = eq_list_lem _ _ (at_most cap all w.1 (min n cap) (omega arith)) in
    said (printed_same numbers texts place cap n there 0 rows w.0 ∙ at_n ∙ e) (own_says numbers texts rows v.0)
