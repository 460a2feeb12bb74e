-- `trace_commands::words::hex` meets its contract: the rest is hex if the word is. Assumes nothing.
use native.Mathlib.Omega.{arith}
use mathlib.Core.Path.{◌∙◌}
use Rattle.trace_commands.proofs.Readings.{hex-end, hex-next, hex-not}
use Rattle.trace_commands.proofs.words.hex.Goals as goal

pub returns-then-digit-gt15 : goal.returns-then-digit-gt15
returns-then-digit-gt15 c = hex-not c.args.w.now c.loop-b.b-index (omega arith) (omega (arith, c.digit.ensures)) ∙ c.loop-b.invariant

pub loop-b-preserved : goal.loop-b-preserved
loop-b-preserved c = hex-next c.args.w.now c.loop-b.b-index (omega arith) (omega (arith, c.digit.ensures)) ∙ c.loop-b.invariant

pub returns : goal.returns
returns c = hex-end c.args.w.now c.loop-b.b-index (omega arith) ∙ c.loop-b.invariant
