-- `record_read::read_last` meets its contract: the bytes held are handed out, and the record is emptied. Assumes nothing.
use mathlib.Core.Path.{ap}
use mathlib.Core.List.{List}
use Prim.Native.Nat.{ℕ, ◌≤◌}
use Rattle.answer.specs.Answer.{complete_of}
use Rattle.record_read.proofs.Calls.{held_part, hears_as}
use Rattle.record_read.proofs.read_last.Goals as goal

pub returns : goal.returns
returns c =
    let few : c.held_len-end.result ≤ 384 = rw c.held_len-end.ensures c.requires.1 in
    let e = held_part c.args.state.now c.held_len-end.result c.requires.0 c.held_len-end.ensures few in
    record {
      hears = hears_as (ap (λ (x : List ℕ). complete_of c.args.s x c.args.decode c.args.payload.now c.args.bits.now) e)
          c.tell_complete-code.ensures;
      emptied = c.empty.ensures;
    }
