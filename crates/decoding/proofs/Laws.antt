-- A turn from what its calls give back. Assumes nothing.
use Prim.Native.Nat.{ℕ}
use mathlib.Core.Path.{◌≡◌, ap, ◌∙◌}
use mathlib.Core.Bool.{Bool, true}
use mathlib.Core.List.{List}
use lib.ListN.{take}
use Rattle.stream.specs.declared.Input.{Input}
use Rattle.stream.specs.declared.Next.{Next}
use Rattle.stream.specs.declared.Taken.{Taken}
use Rattle.stream.specs.Next.{taken_with, comes_of}
use Rattle.json_told.specs.declared.Kept.{Kept}
use Rattle.json_told.specs.declared.Show.{Show}
use Rattle.json_told.specs.Answer.{Left, left_with, left_of, left_long}
use Rattle.decoding.specs.Turn.{Answered, answered_in, following, answered_of, turn_by, turn_in, turn_of}

module _ (show : Show) (k r : Kept) (state line out tally left after counted : List ℕ) where
  -- a number and what is left of it
  abbrev with_number : (ℕ → Left) → ℕ → Answered
  with_number of n = record { number = n; left = of n }

  told : (of : ℕ → Left) → left_with left r.used after counted ≡ of r.number → r.number ≡ following k.number
      → answered_in r left after counted ≡ with_number of (following k.number)
  told of e n = ap (λ (l : Left). record { number = r.number; left = l }) e ∙ ap (with_number of) n

  pub line-told : {next : Next} (n : ℕ) → next ≡ Next.Line n
      → left_with left r.used after counted ≡ left_of show state r.number (take n line) k.used out tally → r.number ≡ following k.number
      → answered_in r left after counted ≡ answered_of show k next state line out tally
  line-told n is e f = rw is (told (λ (m : ℕ). left_of show state m (take n line) k.used out tally) e f)

  pub long_told : {next : Next} → next ≡ Next.TooLong
      → left_with left r.used after counted ≡ left_long show state r.number line k.used out tally → r.number ≡ following k.number
      → answered_in r left after counted ≡ answered_of show k next state line out tally
  long_told is e f = rw is (told (λ (m : ℕ). left_long show state m line k.used out tally) e f)

-- what was taken out of the block, and what it is answered with
pub turned : (show : Show) (input : Input) (ended : Bool) (k : Kept) (state block buf out tally : List ℕ) (t : Taken) (line : List ℕ) (r : Kept)
    (left after counted : List ℕ)
    → taken_with t line ≡ comes_of ended 1024 true input block buf → answered_in r left after counted ≡ answered_of show k t.next state line out tally
    → turn_in (record { input = t.input; kept = r; next = t.next }) left line after counted ≡ turn_of show input ended k state block buf out tally
unfolding turn_of
turned show input ended k state block buf out tally t line r left after counted e f =
    ap (λ (a : Answered). record { input = t.input; next = t.next; answered = a; line = line }) f ∙ ap (turn_by show k state out tally) e
