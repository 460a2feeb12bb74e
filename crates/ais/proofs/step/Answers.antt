-- `step`: the checks before the record, and then its step (proofs/Called, proofs/Received). Assumes nothing.
use mathlib.Core.Path.{sym, ap, ◌∙◌}
use native.Mathlib.Omega.{arith}
use Rattle.ais.specs.Parts.{checked_in}
use Rattle.ais.proofs.Called.{its-sentence, its-parsed, its_large, its-given, line_refused, line_received}
use Rattle.ais.proofs.Received.{receiving_line}
use borrow.Author.Rules.{rules}
use Rattle.ais.proofs.step.Goals as goal

pub returns-in-Err : goal.returns-in-Err
returns-in-Err c =
    rw c.refused.ensures
    (line_refused c.args.state c.args.line.now c.args.decode c.args.payload.now c.args.bits.now _ _
    (sym c.check.ensures ∙ ap checked_in c.in-Err.is))

pub slice_bounds-hand-count : goal.slice_bounds-hand-count
slice_bounds-hand-count c =
    omega (
      arith,
      (its-sentence _ _ (its-parsed c.args.state c.args.line.now c.args.decode c.args.payload.now c.args.bits.now _
          (sym c.check.ensures ∙ ap checked_in c.in-Ok.is))).some-payload,
    )

pub slice_bounds-hand-start : goal.slice_bounds-hand-start
slice_bounds-hand-start c =
    omega (
      arith,
      (its-sentence _ _ (its-parsed c.args.state c.args.line.now c.args.decode c.args.payload.now c.args.bits.now _
          (sym c.check.ensures ∙ ap checked_in c.in-Ok.is))).some-payload,
    )

pub slice_bounds-hand-end : goal.slice_bounds-hand-end
slice_bounds-hand-end c =
    omega (
      arith,
      (its-sentence _ _ (its-parsed c.args.state c.args.line.now c.args.decode c.args.payload.now c.args.bits.now _
          (sym c.check.ensures ∙ ap checked_in c.in-Ok.is))).payload-inside,
    )

pub returns-in-Ok : goal.returns-in-Ok
returns-in-Ok c =
    let e = (sym c.check.ensures ∙ ap checked_in c.in-Ok.is) in
    c.hand.ensures
    ∙ receiving_line c.args.state _ _ c.args.decode c.args.payload.now c.args.bits.now (search rules)
    (its_large c.args.state c.args.line.now c.args.decode c.args.payload.now c.args.bits.now _ e)
    (its-given c.args.state c.args.line.now c.args.decode c.args.payload.now c.args.bits.now _ e)
    ∙ line_received c.args.state c.args.line.now c.args.decode c.args.payload.now c.args.bits.now _ e
