-- `put_payload` meets its contract: what is put so far and what is left are the whole. Assumes nothing.
use mathlib.Core.Path.{◌≡◌}
use lib.Seq.{slice}
use Rattle.text_out.specs.Text.{put}
use Rattle.text_out.specs.Output.{stands}
use Rattle.writer.specs.Message.{armoured}
use Rattle.writer.proofs.put_payload.Given as goal

abbrev pub invariant-loop-i : goal.invariant-loop-i
invariant-loop-i l = record {
  same : l.out.buffer.ghost_name ≡ l.initial.out.buffer.ghost_name;
  is : put (stands l.out) (slice l.i l.to (armoured l.bits l.count)) ≡ put (stands l.initial.out) (slice l.from l.to (armoured l.bits l.count));
}
