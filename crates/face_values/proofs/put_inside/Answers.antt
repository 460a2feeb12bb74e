-- `face_values::put_inside` meets its contract. Assumes nothing.
use Rattle.std.proofs.Common.{rules}
use native.Mathlib.Omega.{arith}
use mathlib.Core.Path.{sym, ◌∙◌}
use Rattle.text_out.specs.Output.{stands}
use Rattle.face_values.proofs.Escaped.{inside_step, inside-end}
use Rattle.face_values.proofs.put_inside.Goals as goal

pub loop-b-preserved : goal.loop-b-preserved
loop-b-preserved c = record {
  same = search rules;
  is = inside_step (stands c.loop-b.out) c.args.s.now c.loop-b.b-index (omega arith) c.put_char.ensures.is c.loop-b.invariant.is;
}

pub returns : goal.returns
returns c = record { same = search rules; is = sym (inside-end (stands c.loop-b.out) c.args.s.now c.loop-b.b-index (omega arith)) ∙ c.loop-b.invariant.is }
