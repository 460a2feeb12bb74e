-- `sumturnip::sumturnip_fresh` meets its contract. Assumes nothing.
use Rattle.sumturnip.proofs.Calls.{fresh-short, fresh_made}
use Rattle.sumturnip.proofs.sumturnip_fresh.Goals as goal

pub returns-then-lent-lt400 : goal.returns-then-lent-lt400
returns-then-lent-lt400 c = fresh-short c.args.lent.now c.if-lent-lt400.true

pub returns : goal.returns
returns c = fresh_made c.args.lent.now c.if-lent-lt400.false c.fresh.ensures c.store.ensures
