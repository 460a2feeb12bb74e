-- `trace_commands::words::read` meets its contract. Assumes nothing.
use mathlib.Core.Path.{sym, ◌∙◌}
use borrow.Author.Tests.{not-true, not-false}
use Rattle.trace_commands.proofs.Fillings.{pairs_hex, fills_none, fills_no_pairs, fills_no_room, fills_some}
use Rattle.trace_commands.proofs.words.read.Goals as goal

pub returns-then-same : goal.returns-then-same
returns-then-same c = fills_none c.args.w.now c.args.into.now (sym c.same.ensures ∙ c.if-same.true)

pub returns-then-not-pairs : goal.returns-then-not-pairs
returns-then-not-pairs c =
    fills_no_pairs c.args.w.now c.args.into.now (sym c.same.ensures ∙ c.if-same.false)
    (sym c.pairs.ensures ∙ not-true _ c.if-not-pairs.true-raw)

pub returns-then-into-w : goal.returns-then-into-w
returns-then-into-w c =
    fills_no_room c.args.w.now c.args.into.now (sym c.same.ensures ∙ c.if-same.false)
    (sym c.pairs.ensures ∙ not-false _ c.if-not-pairs.false-raw) c.if-into-w.true

pub store-requires : goal.store-requires
store-requires c = pairs_hex c.args.w.now (sym c.pairs.ensures ∙ not-false _ c.if-not-pairs.false-raw)

pub returns : goal.returns
returns c =
    fills_some c.args.w.now c.args.into.now
    (sym c.same.ensures ∙ c.if-same.false)
    (sym c.pairs.ensures ∙ not-false _ c.if-not-pairs.false-raw)
    c.if-into-w.false _ _ c.store.ensures
