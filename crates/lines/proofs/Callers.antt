-- What a caller may count on: the place to go on from lies further on in the block. Assumes nothing.
use Prim.Native.Nat.{ℕ, ◌+◌, ◌<◌}
use native.Mathlib.Omega.{arith}
use mathlib.Core.Bool.{Bool, true, false}
use mathlib.Core.List.{List, ◌++◌}
use lib.ListN.{length, drop}
use lib.Dec.{ltb, leb}
use Rattle.refusal.specs.Words.{pick}
use Rattle.lines.specs.Lines.{until_lf, line_len}
use Rattle.lines.specs.Held.{held_of}
use Rattle.lines.specs.declared.Event.TheVariants.{Line, TooLong, Room}
use Rattle.lines.specs.Collect.{event_of, collect_of, at_lf, at_end, next_of}

event-on : (m : ℕ) (strip : Bool) (h : List ℕ) (from all next : ℕ) → from < next → from < next_of (event_of m strip h next) all
unfolding event_of
event-on m strip h from all next a = go (leb (line_len strip h) m)
  where
    go : (q : Bool) → from < next_of (pick q (Line (line_len strip h) next) (TooLong next)) all
    go true = a
    go false = a

pub collect_on : (m : ℕ) (strip : Bool) (n : ℕ) (block : List ℕ) (from : ℕ) (buf : List ℕ) → from < length block
    → from < next_of (collect_of m strip n block from buf).event (length block)
unfolding collect_of
collect_on m strip n block from buf l = go (ltb (length buf) m) (ltb (length (until_lf (drop from block))) (length (drop from block)))
  where
    h : List ℕ
    h = held_of m n buf ++ until_lf (drop from block)

    go : (q r : Bool)
        → from < next_of
        (pick q (record { len = n; event = Room; line = buf })
        (pick r (at_lf m strip h (from + length (until_lf (drop from block)) + 1) buf) (at_end m h buf))).event
        (length block)
    go true r = l
    go false true = event-on m strip h from (length block) (from + length (until_lf (drop from block)) + 1) (omega arith)
    go false false = l
