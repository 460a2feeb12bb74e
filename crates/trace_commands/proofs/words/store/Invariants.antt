-- `trace_commands::words::store` meets its contract: the bytes stored and those of the rest are the word's. Assumes nothing.
use Prim.Native.Nat.{◌*◌}
use mathlib.Core.Path.{◌≡◌}
use lib.ListN.{drop}
use Rattle.text_out.specs.Text.{put}
use Rattle.text_out.specs.Output.{stands}
use Rattle.trace_commands.specs.Hex.{bytes_of}
use Rattle.trace_commands.proofs.words.store.Given as goal

abbrev pub invariant-loop-i : goal.invariant-loop-i
invariant-loop-i l = record {
  same : l.out.buffer.ghost_name ≡ l.initial.out.buffer.ghost_name;
  is : put (stands l.out) (bytes_of (drop (2 * l.i) l.w)) ≡ put (stands l.initial.out) (bytes_of l.w);
}
