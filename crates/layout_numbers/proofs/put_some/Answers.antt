-- `layout_numbers::put_some` meets its contract: what is put so far and what is left are the whole. Assumes nothing.
use native.Mathlib.Omega.{arith}
use mathlib.Core.Path.{sym, ◌∙◌}
use Rattle.text_out.specs.Text.{text}
use Rattle.text_out.proofs.Strings.{bytes_step, bytes-end}
use Rattle.layout_numbers.proofs.put_some.Goals as goal

pub loop-n-preserved : goal.loop-n-preserved
loop-n-preserved c =
    bytes_step (text c.loop-n.p c.loop-n.out) _ _ c.args.s.now c.loop-n.n-index (omega (arith, c.loop-n-test.true)) c.put_number-p.ensures c.loop-n.invariant

pub returns : goal.returns
returns c =
    sym (bytes-end (text c.loop-n.p c.loop-n.out) c.args.s.now c.loop-n.n-index (omega (arith, c.loop-n-test.false))) ∙ c.loop-n.invariant
