-- `record_bytes::held_len` meets its contract. Assumes nothing.
use lib.ListN.{length}
use borrow.Author.Tests.{le-ltb}
use Rattle.record_bytes.specs.Bytes.{record_in}
use Rattle.record_bytes.proofs.held_len.Goals as goal

pub returns : goal.returns
unfolding record_in
returns c = rw (le-ltb (length c.args.state.now) 400 c.if-state-lt400.false) c.length_in.ensures
