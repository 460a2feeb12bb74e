-- `record_bytes::load` meets its contract. Assumes nothing.
use mathlib.Core.Path.{◌∙◌}
use lib.ListN.{length}
use borrow.Author.Tests.{le-ltb}
use Rattle.record_bytes.proofs.Laws.{loaded}
use Rattle.record_bytes.proofs.load.Goals as goal

pub returns : goal.returns
returns c =
    rw (le-ltb (length c.args.state.now) 400 c.if-state-lt400.false)
    (c.made.ensures ∙ loaded c.args.state.now _ c.number_by-number.ensures _ c.length_in-len.ensures _ c.copy_from_slice.ensures.after)
