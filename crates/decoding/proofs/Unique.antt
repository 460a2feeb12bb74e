-- NOTHING IS LOST: how far the input was taken, what is kept, what came and each lent buffer are told by a turn. Assumes nothing.
use mathlib.Core.Path.{◌≡◌, ap}
use mathlib.Core.List.{List}
use Prim.Native.Nat.{ℕ}
use Rattle.json_told.specs.declared.Kept.{Kept}
use Rattle.json_told.proofs.Unique.{same_kept}
use Rattle.decoding.specs.Turn.{Answered, answered_in, Turns, turn_in}
use Rattle.decoding.specs.declared.Turned.{Turned}

-- what is kept, the record's bytes, the output and the counts
pub same_answered : (j k : Kept) (r s o p t u : List ℕ) → answered_in j r o t ≡ answered_in k s p u → (j ≡ k) × (r ≡ s) × (o ≡ p) × (t ≡ u)
same_answered j k r s o p t u e = same_kept j k r s o p t u (ap (λ (a : Answered). a.number) e) (ap (λ (a : Answered). a.left) e)

-- what a turn gives back, from what it tells
abbrev turned_by : Turns → Turned
turned_by z = record { input = z.input; kept = record { number = z.answered.number; used = z.answered.left.out.at }; next = z.next }

pub same_turned : (a b : Turned) (r s l m o p t u : List ℕ) → turn_in a r l o t ≡ turn_in b s m p u → (a ≡ b) × (r ≡ s) × (l ≡ m) × (o ≡ p) × (t ≡ u)
same_turned a b r s l m o p t u e =
    let x = same_answered a.kept b.kept r s o p t u (ap (λ (z : Turns). z.answered) e) in
    (ap turned_by e, x.1, ap (λ (z : Turns). z.line) e, x.2, x.3)
