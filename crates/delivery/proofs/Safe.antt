-- The first half of demand 3: each payload handed out as complete is one that was sent, with its fill. Assumes nothing.
use Prim.Native.Nat.{ℕ, zero, suc, ◌+◌, ◌≤◌, ◌<◌}
use native.Mathlib.Omega.{arith}
use mathlib.Core.Path.{◌≡◌, refl, sym, subst, ◌∙◌}
use mathlib.Core.Logic.{◌≢◌}
use mathlib.Core.Bool.{Bool, true, false, and-eq-true_iff}
use mathlib.Core.Option.{Option, none, some, some_inj, none-ne-some}
use mathlib.Core.List.{List, [], ◌∷◌, ◌++◌, Memᴰ}
use lib.ListN.{get_elem?}
use lib.Seq.{append_snoc}
use lib.Dec.{eqb, ltb}
use borrow.Author.Tests.{ltb-true, eqb-true}
use Rattle.refusal.specs.Words.{pick}
use Rattle.writer.specs.Message.{Message, lines_in}
use Rattle.delivery.specs.Delivery.{Arrival, Answer, unfinished, complete, AllOurs, Ours, number_on, first_of_several, or_else, always, newest, NoMixing}
use Rattle.delivery.specs.Delivery.{Safety}
use Rattle.delivery.proofs.Lines.{number_several}
use Rattle.delivery.proofs.Reader.{Step, answers_from, run_from, Reader, gives}
use Rattle.delivery.proofs.Effects as effects
use Rattle.delivery.proofs.Effects.{Fine, AllSendable, Effect, joins, stays}

-- the newest first line where every arrival counts
abbrev pub latest : List Arrival → Option Arrival
latest arrivals = newest (λ (a : Arrival). true) arrivals

-- one arrival more is the newest if it is a first of several
or_else-pick : (b : Bool) (a : Arrival) (x y : Option Arrival) → or_else (pick b (some a) x) y ≡ pick b (some a) (or_else x y)
or_else-pick true a x y = refl
or_else-pick false a x y = refl

pub newest_snoc : (before : List Arrival) (a : Arrival) → latest (before ++ a ∷ []) ≡ pick (first_of_several a) (some a) (latest before)
newest_snoc [] a = refl
newest_snoc (x ∷ xs) a = rw (newest_snoc xs a, or_else-pick)

pub is-first : (a : Arrival) → first_of_several a ≡ true → (a.line ≡ 1) × (1 < lines_in a.of)
is-first a e =
    let t = (and-eq-true_iff (eqb a.line 1) (ltb 1 (lines_in a.of))).0 e in
    (eqb-true a.line 1 t.0, ltb-true 1 (lines_in a.of) t.1)

-- the premise at one arrival
abbrev pub Fits : Option Arrival → Arrival → Type 0
Fits o a = (f : Arrival) → o ≡ some f → a.line ≢ 1 → number_on a ≡ number_on f → a.of ≡ f.of

-- the arrivals that follow are ours too
pub later_ours : (sent : List Message) (a : Arrival) (later : List Arrival) → AllOurs sent (a ∷ later) → AllOurs sent later
later_ours sent a later w b h = w b (Memᴰ.tail h)

module _ {S : Type 0} {does : ℕ → S → Arrival → Step S} {fresh : S} (reader : Reader does fresh) (sent : List Message) (sendable : AllSendable sent) where
  -- the state in which the first j lines of the message of the newest first line f are held
  record Holding (f : Arrival) (s : S) : Type 0 where
    several : 1 < lines_in f.of
    j : ℕ
    from_one : 1 ≤ j
    is : s ≡ reader.held f.of j

  -- the state is good for the newest first line
  abbrev Good : Option Arrival → S → Type 0
  Good none s = s ≡ fresh
  Good (some f) s = Holding f s

  -- an arrival leaves the state good for o, and its answer is fine
  record Kept (o : Option Arrival) (p : ℕ) (s : S) (a : Arrival) : Type 0 where
    good : Good o (does p s a).after
    fine : Fine sent (does p s a).answer

  kept_by : (o : Option Arrival) (p : ℕ) (s s' : S) (a : Arrival) (x : Answer) → does p s a ≡ gives x s' → Good o s' → Fine sent x → Kept o p s a
  kept_by o p s s' a x e g f = record { good = rw e g; fine = rw e f }

  -- a first of several starts anew
  started : (p : ℕ) (s : S) (a : Arrival) → Ours sent a → first_of_several a ≡ true → Kept (some a) p s a
  started p s a w e =
      let f = is-first a e in
      kept_by (some a) p s (reader.held a.of 1) a unfinished
      (rw f.0 (reader.first a.of (sendable a.of w.was_sent) p s f.1))
      (record { several = f.1; j = 1; from_one = omega arith; is = refl }) tt

  -- any other arrival leaves the state as it is or joins
  idle : (o : Option Arrival) (p : ℕ) (s : S) (a : Arrival) → Good o s → Ours sent a → Fits o a → first_of_several a ≡ false → Kept o p s a
  idle none p s a g w fits e =
      rw g (let t = effects.effect_fresh reader sent sendable p a w e in kept_by none p fresh fresh a t.says t.is refl t.fine)
  idle (some f) p s a g w fits e =
      rw g.is
      (go (effects.effect reader sent sendable p f.of g.several g.j a w e
      (λ d q. fits f refl d (q ∙ sym (number_several f.of f.line g.several)))))
    where
      now : S
      now = reader.held f.of g.j

      held : (i : ℕ) → 1 ≤ i → Holding f (reader.held f.of i)
      held i h = record { several = g.several; j = i; from_one = h; is = refl }

      go : Effect reader sent sendable p f.of g.several g.j a → Kept (some f) p now a
      go (joins q l) =
          let t = effects.advance reader sent sendable p f.of g.j g.from_one a w q l in
          kept_by (some f) p now (reader.held f.of (g.j + 1)) a t.says t.is (held (g.j + 1) (omega arith)) t.fine
      go (stays n t) = kept_by (some f) p now now a t.says t.is (held g.j g.from_one) t.fine

  kept : (o : Option Arrival) (p : ℕ) (s : S) (a : Arrival) → Good o s → Ours sent a → Fits o a → Kept (pick (first_of_several a) (some a) o) p s a
  kept o p s a g w fits = go (first_of_several a) refl
    where
      go : (b : Bool) → first_of_several a ≡ b → Kept (pick b (some a) o) p s a
      go true e = started p s a w e
      go false e = idle o p s a g w fits e

  safe_from : (before rest : List Arrival) (p : ℕ) (s : S) → AllOurs sent rest → NoMixing always (before ++ rest) → Good (latest before) s
      → (when : ℕ) (x : Answer) → get_elem? (answers_from does p s rest) when ≡ some x → Fine sent x
  safe_from before [] p s w n g when x e = absurd (none-ne-some x e)
  safe_from before (a ∷ later) p s w n g zero x e =
      subst (Fine sent) (some_inj.0 e) (kept (latest before) p s a g (w a (Memᴰ.head refl)) (λ f q. n before later a f refl q)).fine
  safe_from before (a ∷ later) p s w n g (suc when) x e =
      safe_from (before ++ a ∷ []) later (suc p) (does p s a).after (later_ours sent a later w) (rw append_snoc n)
      (rw newest_snoc (kept (latest before) p s a g (w a (Memᴰ.head refl)) (λ f q. n before later a f refl q)).good) when x e

  pub safety : Safety always sent (run_from does fresh)
  safety arrivals u answers r when payload fill e =
      safe_from [] arrivals 0 fresh u.ours u.no_mixing refl when (complete payload fill) (rw r at e)
