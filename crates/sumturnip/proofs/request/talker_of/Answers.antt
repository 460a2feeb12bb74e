-- `sumturnip::request::talker_of` meets its contract. Assumes nothing.
use native.Mathlib.Omega.{arith}
use Rattle.sumturnip.specs.Request.{talker_by}
use Rattle.sumturnip.proofs.Laws.{no_talker}
use Rattle.sumturnip.proofs.request.talker_of.Goals as goal

pub returns-in-1 : goal.returns-in-1
unfolding talker_by
returns-in-1 c = rw c.in-1.is

pub returns-in-2 : goal.returns-in-2
unfolding talker_by
returns-in-2 c = rw c.in-2.is

pub returns-in-3 : goal.returns-in-3
unfolding talker_by
returns-in-3 c = rw c.in-3.is

pub returns-in-4 : goal.returns-in-4
unfolding talker_by
returns-in-4 c = rw c.in-4.is

pub returns-in-5 : goal.returns-in-5
unfolding talker_by
returns-in-5 c = rw c.in-5.is

pub returns-in-6 : goal.returns-in-6
unfolding talker_by
returns-in-6 c = rw c.in-6.is

pub returns-in-7 : goal.returns-in-7
unfolding talker_by
returns-in-7 c = rw c.in-7.is

pub returns-in-8 : goal.returns-in-8
unfolding talker_by
returns-in-8 c = rw c.in-8.is

pub returns-in-9 : goal.returns-in-9
unfolding talker_by
returns-in-9 c = rw c.in-9.is

pub returns-in-10 : goal.returns-in-10
unfolding talker_by
returns-in-10 c = rw c.in-10.is

pub returns-in_default : goal.returns-in_default
returns-in_default c =
    rw (no_talker c.args.n (λ p. omega arith))
