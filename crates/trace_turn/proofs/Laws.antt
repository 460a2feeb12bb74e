-- A turn from what its calls give back. Assumes nothing.
use Prim.Native.Nat.{ℕ}
use mathlib.Core.Path.{◌≡◌, ap, ◌∙◌}
use mathlib.Core.Bool.{Bool, false}
use mathlib.Core.List.{List, [], ◌∷◌}
use Rattle.text_out.specs.Text.{Text, text, put}
use Rattle.text_out.proofs.Laws.{put_then}
use Rattle.reassembly.specs.declared.Record.{Record}
use Rattle.stream.specs.declared.Input.{Input}
use Rattle.stream.specs.declared.Taken.{Taken}
use Rattle.stream.specs.Next.{taken_with, comes_of}
use Rattle.trace_turn.specs.declared.Answered.{Answered}
use Rattle.trace_protocol.specs.Said.{said_of, kept_of}
use Rattle.trace_turn.specs.Turn.{Replied, replied_in, command_of, replied_of, turn_by, turn_in, turn_of}

-- what is said of a command, and an LF after it
pub replied : (state after : Record) (used : ℕ) (command out : List ℕ) {mid end : Text} → mid ≡ put (text used out) (said_of state command)
    → end ≡ put mid (10 ∷ []) → after ≡ kept_of state command
    → record { state = after; out = end } ≡ command_of state used command out
replied state after used command out {mid} {end} e f k =
    ap (λ (s : Record). record { state = s; out = end }) k
    ∙ ap (λ (t : Text). record { state = kept_of state command; out = t }) (put_then _ _ (10 ∷ []) e f)

-- what was taken out of the block, and what it is answered with
pub turned : (input : Input) (ended : Bool) (state : Record) (used : ℕ) (block buf out : List ℕ) (t : Taken) (line : List ℕ) (r : Answered) (after : List ℕ)
    → taken_with t line ≡ comes_of ended 8192 false input block buf → replied_in r after ≡ replied_of state used t.next line out
    → turn_in (record { input = t.input; next = t.next; answered = r }) line after ≡ turn_of input ended state used block buf out
unfolding turn_of
turned input ended state used block buf out t line r after e f =
    ap (λ (a : Replied). record { input = t.input; next = t.next; replied = a; line = line }) f ∙ ap (turn_by state used out) e
