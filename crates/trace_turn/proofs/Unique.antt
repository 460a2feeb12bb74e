-- NOTHING IS LOST: how far the input was taken, what came, the answer and each lent buffer are told by a turn. Assumes nothing.
use mathlib.Core.Path.{◌≡◌, ap}
use mathlib.Core.List.{List}
use Prim.Native.Nat.{ℕ}
use Rattle.trace_turn.specs.Turn.{Replied, replied_in, Turns, turn_in}
use Rattle.trace_turn.specs.declared.Answered.{Answered}
use Rattle.trace_turn.specs.declared.Turned.{Turned}

-- the record and the place, from what is told of them
abbrev answered_by : Replied → Answered
answered_by r = record { state = r.state; at = r.out.at }

-- the record, the place and the output
pub same_replied : (a b : Answered) (o p : List ℕ) → replied_in a o ≡ replied_in b p → (a ≡ b) × (o ≡ p)
same_replied a b o p e = (ap answered_by e, ap (λ (r : Replied). r.out.bytes) e)

-- what a turn gives back, from what it tells
abbrev turned_by : Turns → Turned
turned_by z = record { input = z.input; next = z.next; answered = answered_by z.replied }

pub same_turned : (a b : Turned) (l m o p : List ℕ) → turn_in a l o ≡ turn_in b m p → (a ≡ b) × (l ≡ m) × (o ≡ p)
same_turned a b l m o p e =
    let x = same_replied a.answered b.answered o p (ap (λ (z : Turns). z.replied) e) in
    (ap turned_by e, ap (λ (z : Turns). z.line) e, x.1)
