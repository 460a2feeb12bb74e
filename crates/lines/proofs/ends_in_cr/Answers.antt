-- `lines::ends_in_cr` meets its contract. Assumes nothing.
use native.Mathlib.Omega.{arith}
use mathlib.Core.Path.{sym}
use Rattle.lines.proofs.Ends.{cr_none, cr-within, cr_beyond}
use Rattle.lines.proofs.ends_in_cr.Goals as goal

pub returns-then-len-eq0 : goal.returns-then-len-eq0
returns-then-len-eq0 c = sym (cr_none c.args.most c.args.len c.args.line.now c.requires.room c.if-len-eq0.true)

pub returns-then-most-len : goal.returns-then-most-len
returns-then-most-len c = sym (cr_beyond c.args.most c.args.len c.args.line.now c.requires.room c.if-most-len.true c.requires.few)

pub returns : goal.returns
returns c = sym (cr-within c.args.most c.args.len c.args.line.now c.requires.room (omega (arith, c.if-len-eq0.false)) c.if-most-len.false)
