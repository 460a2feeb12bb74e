-- `lines::line_len` meets its contract. Assumes nothing.
use native.Mathlib.Omega.{arith}
use mathlib.Core.Path.{sym, ◌∙◌}
use Rattle.lines.proofs.Ends.{cr-some, len-cr, len_no_cr, len-kept}
use Rattle.lines.proofs.line_len.Goals as goal

pub overflow_sub-result : goal.overflow_sub-result
overflow_sub-result c = omega (arith, cr-some c.args.most c.args.len c.args.line.now c.requires.room (sym c.ends_in_cr.ensures ∙ c.if-ends_in_cr.true))

pub returns-then-ends_in_cr : goal.returns-then-ends_in_cr
returns-then-ends_in_cr c =
    len-cr c.args.most c.args.len c.args.line.now c.requires.room c.args.strip c.requires.few c.if-strip.true
    (sym c.ends_in_cr.ensures ∙ c.if-ends_in_cr.true)

pub returns-else-ends_in_cr : goal.returns-else-ends_in_cr
returns-else-ends_in_cr c =
    len_no_cr c.args.most c.args.len c.args.line.now c.requires.room c.args.strip c.requires.few
    (sym c.ends_in_cr.ensures ∙ c.if-ends_in_cr.false)

pub returns-else-strip : goal.returns-else-strip
returns-else-strip c = len-kept c.args.most c.args.len c.args.line.now c.requires.room c.args.strip c.requires.few c.if-strip.false
