-- The lines of a message, read in order: no line is refused, and the last one hands out the whole. Assumes nothing.
use Prim.Native.Nat.{ℕ, zero, suc, ◌+◌, ◌-◌, ◌≤◌}
use native.Mathlib.Omega.{arith}
use mathlib.Core.Path.{◌≡◌, refl, ap, ◌∙◌}
use mathlib.Core.List.{List, [], ◌∷◌, ◌++◌}
use lib.ListN.{replicate}
use Rattle.writer.specs.Message.{Message, Sendable, lines_in}
use Rattle.delivery.specs.Delivery.{Arrival, Answer, unfinished, complete}
use Rattle.delivery.specs.Lines.{lines_from, the_all_lines}
use Rattle.delivery.specs.RoundTrip.{whole_at_last}
use Rattle.delivery.proofs.Lines.{some_lines}
use Rattle.delivery.proofs.Reader.{Step, answers_from, Reader}

module _ {S : Type 0} {does : ℕ → S → Arrival → Step S} {fresh : S} (reader : Reader does fresh) (m : Message) (s : Sendable m) where
  abbrev whole : ℕ → List Answer
  whole k = replicate k unfinished ++ complete m.payload m.fill ∷ []

  -- what a line that is taken, and those after it, are answered
  then_more : (p k : ℕ) (x : S) (i : ℕ) (o : Step S) → does p x (record { of = m; line = i }) ≡ o
      → answers_from does p x (lines_from m i (suc k)) ≡ o.answer ∷ answers_from does (suc p) o.after (lines_from m (i + 1) k)
  then_more p k x i o e = ap (λ (q : Step S). q.answer ∷ answers_from does (suc p) q.after (lines_from m (i + 1) k)) e

  -- the lines that are left, with j held
  rest_read : (k p j : ℕ) → 1 ≤ j → j + suc k ≡ lines_in m → answers_from does p (reader.held m j) (lines_from m (j + 1) (suc k)) ≡ whole k
  rest_read zero p j h e = then_more p zero (reader.held m j) (j + 1) _ (reader.last m s p j h (omega arith))
  rest_read (suc k) p j h e =
      then_more p (suc k) (reader.held m j) (j + 1) _ (reader.next m s p j h (omega arith))
      ∙ ap (λ (l : List Answer). unfinished ∷ l) (rest_read k (suc p) (j + 1) (omega arith) (omega arith))

  by_count : (n : ℕ) → lines_in m ≡ n → 1 ≤ n → answers_from does 0 fresh (lines_from m 1 n) ≡ whole (n - 1)
  by_count zero e h = absurd (omega arith)
  by_count (suc zero) e h = then_more 0 zero fresh 1 _ (reader.alone m s 0 fresh e)
  by_count (suc (suc k)) e h =
      let back : suc (suc k) - 1 ≡ suc k = omega arith in
      rw back
      (then_more 0 (suc k) fresh 1 _ (reader.first m s 0 fresh (omega arith))
      ∙ ap (λ (l : List Answer). unfinished ∷ l) (rest_read k 1 1 (omega arith) (omega arith)))

  pub read-alone : answers_from does 0 fresh (the_all_lines m) ≡ whole_at_last m m.payload m.fill
  read-alone = by_count (lines_in m) refl (some_lines m s)
