-- `decoding::asked_by_option` meets its contract. Assumes nothing.
use Rattle.std.proofs.Common.{ap}
use Rattle.lines.proofs.Same.{equal_says}
use Rattle.decoding.specs.Asked.{option_by, asks}
use Rattle.decoding.proofs.asked_by_option.Goals as goal

pub returns-then-eq : goal.returns-then-eq
unfolding option_by
returns-then-eq c = rw (equal_says _ _ _ _ c.if-eq.ensures c.as_slice.ensures)

pub returns-then-eq-2 : goal.returns-then-eq-2
unfolding option_by
returns-then-eq-2 c = rw (equal_says _ _ _ _ c.if-eq.ensures c.as_slice.ensures, equal_says _ _ _ _ c.if-eq-2.ensures c.as_slice-2.ensures)

pub returns : goal.returns
unfolding option_by
returns c = rw (equal_says _ _ _ _ c.if-eq.ensures c.as_slice.ensures, equal_says _ _ _ _ c.if-eq-2.ensures c.as_slice-2.ensures)
    (ap (asks c.args.asked.help c.args.asked.status c.args.asked.quiet c.args.asked.summary c.args.asked.inputs) c.or-a.ensures)
