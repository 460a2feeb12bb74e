-- `Output::put_some` meets its contract: what is put so far and what is left are the whole. Assumes nothing.
use mathlib.Core.Path.{◌≡◌}
use lib.ListN.{drop}
use Rattle.text_out.specs.Text.{put}
use Rattle.text_out.specs.Output.{stands}
use Rattle.text_out.proofs.Output.put_some.Given as goal

abbrev pub invariant-loop-b : goal.invariant-loop-b
invariant-loop-b l = record {
  same : l.self.buffer.ghost_name ≡ l.initial.self.buffer.ghost_name;
  is : put (stands l.self) (drop l.b-index l.s) ≡ put (stands l.initial.self) l.s;
}
