-- The premise holds of every order of arrival if the messages of several lines that are sent differ in their numbers. Assumes nothing.
use native.Mathlib.Omega.{arith}
use mathlib.Core.Path.{◌≡◌, refl, sym, ◌∙◌}
use mathlib.Core.Bool.{Bool, true, false}
use mathlib.Core.Option.{Option, none, some, some_inj, none-ne-some}
use mathlib.Core.List.Memᴰ
use mathlib.Core.List.{List, [], ◌∷◌, Memᴰ}
use Prim.Native.Nat.{ℕ, ◌<◌}
use Rattle.std.specs.Prelude.{Some}
use Rattle.refusal.specs.Words.{pick}
use Rattle.writer.specs.Message.{Message, lines_in}
use Rattle.delivery.specs.Delivery.{Arrival, AllOurs, first_of_several, or_else, always, NoMixing, Numbered}
use Rattle.delivery.proofs.Lines.{number_several}
use Rattle.delivery.proofs.Safe.{latest, is-first}

-- the newest first line is one of the arrivals, and a first of several
newest-is : (l : List Arrival) (f : Arrival) → latest l ≡ some f → Memᴰ f l × (first_of_several f ≡ true)
newest-is [] f e = absurd (none-ne-some f e)
newest-is (a ∷ later) f e = go (latest later) refl (first_of_several a) refl e (λ q. newest-is later f q)
  where
    go : (o : Option Arrival) → latest later ≡ o → (b : Bool) → first_of_several a ≡ b → or_else o (pick b (some a) none) ≡ some f
        → (latest later ≡ some f → Memᴰ f later × (first_of_several f ≡ true)) → Memᴰ f (a ∷ later) × (first_of_several f ≡ true)
    go none q true p z rec = let x = some_inj.0 z in (Memᴰ.head (sym x), rw x at p)
    go none q false p z rec = absurd (none-ne-some f z)
    go (some g) q b p z rec = let t = rec (q ∙ z) in (Memᴰ.tail t.0, t.1)

same_of : (a b : ℕ) → Some a ≡ Some b → a ≡ b
same_of a b e = cc

pub numbered : (sent : List Message) → Numbered sent → (arrivals : List Arrival) → AllOurs sent arrivals → NoMixing always arrivals
numbered sent d arrivals w before after a f e z l q =
    let t = newest-is before f z in
    let a-ours = w a (rw e (Memᴰ.append_right before (Memᴰ.head refl))) in
    let f-ours = w f (rw e (Memᴰ.append_left (a ∷ after) t.0)) in
    let several : 1 < lines_in a.of = omega (arith, a-ours.from_one, a-ours.to_last) in
    let f-several = (is-first f t.1).1 in
    d a.of f.of a-ours.was_sent f-ours.was_sent several f-several
    (same_of a.of.number f.of.number (sym (number_several a.of a.line several) ∙ q ∙ number_several f.of f.line f-several))
