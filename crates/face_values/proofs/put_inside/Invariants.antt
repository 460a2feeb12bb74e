-- `face_values::put_inside` meets its contract. Assumes nothing.
use mathlib.Core.Path.{◌≡◌}
use lib.ListN.{drop}
use Rattle.text_out.specs.Text.{put}
use Rattle.text_out.specs.Output.{stands}
use Rattle.face_values.specs.Quoted.{inside}
use Rattle.face_values.proofs.put_inside.Given as goal

abbrev pub invariant-loop-b : goal.invariant-loop-b
invariant-loop-b l = record {
  same : l.out.buffer.ghost_name ≡ l.initial.out.buffer.ghost_name;
  is : put (stands l.out) (inside (drop l.b-index l.s)) ≡ put (stands l.initial.out) (inside l.s);
}
