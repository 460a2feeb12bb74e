-- `lines::push` meets its contract. Assumes nothing.
use native.Mathlib.Omega.{arith}
use Rattle.lines.proofs.Keeping.{push_short, push_return, push_over}
use Rattle.lines.proofs.push.Goals as goal
use Rattle.lines.proofs.push.Goals.{then-len-most-2+else-b-eq13, else-len-most-2}

pub returns-then-len-most : goal.returns-then-len-most
returns-then-len-most c = push_short c.args.most c.args.len c.args.line.now c.requires.room c.args.b c.if-len-most.true

pub returns-then-b-eq13 : goal.returns-then-b-eq13
returns-then-b-eq13 c = push_return c.args.most c.args.len c.args.line.now c.requires.room c.args.b c.if-len-most-2.true c.if-b-eq13.true

pub returns : goal.returns
returns c =
    push_over c.args.most c.args.len c.args.line.now c.requires.room c.args.b (omega arith) c.requires.few
    (λ e d. elim c.if-len-most-2.branch [ then-len-most-2+else-b-eq13 w ↦ w.if-b-eq13.false d | else-len-most-2 w ↦ w.if-len-most-2.false e ])
