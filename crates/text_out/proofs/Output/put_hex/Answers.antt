-- `Output::put_hex` meets its contract. Assumes nothing.
use Rattle.std.proofs.Common.{rules}
use native.Mathlib.Omega.{arith}
use mathlib.Core.Path.{sym, ◌∙◌}
use Rattle.text_out.specs.Output.{stands}
use Rattle.text_out.proofs.Strings.{hex_step, hex-end}
use Rattle.text_out.proofs.Output.put_hex.Goals as goal

pub loop-b-preserved : goal.loop-b-preserved
loop-b-preserved c = record {
  same = search rules;
  is = hex_step (stands c.loop-b.self) _ _ c.args.s.now c.loop-b.b-index (omega arith) _ _ _ c.digit_of.ensures c.put_byte.ensures.is c.digit_of-in-loop-b.ensures c.put_byte-in-loop-b.ensures.is
      c.loop-b.invariant.is;
}

pub returns : goal.returns
returns c = record { same = search rules; is = sym (hex-end (stands c.loop-b.self) c.args.s.now c.loop-b.b-index (omega arith)) ∙ c.loop-b.invariant.is }
