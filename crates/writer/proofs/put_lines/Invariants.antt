-- `put_lines` meets its contract: what is put so far and the lines that are left are the whole. Assumes nothing.
use mathlib.Core.Path.{◌≡◌}
use Prim.Native.Nat.{◌+◌, ◌-◌}
use Rattle.text_out.specs.Text.{put}
use Rattle.text_out.specs.Output.{stands}
use Rattle.writer.specs.Message.{text_from, text_all}
use Rattle.writer.specs.Writer.{message_of}
use Rattle.writer.proofs.put_lines.Given as goal

abbrev pub invariant-loop-i : goal.invariant-loop-i
invariant-loop-i l = record {
  same : l.out.buffer.ghost_name ≡ l.initial.out.buffer.ghost_name;
  is : put (stands l.out) (text_from (message_of l.asked.request l.asked.bits.now) l.i (l.lines + 1 - l.i)) ≡ put (stands l.initial.out) (text_all (message_of l.asked.request l.asked.bits.now));
}
