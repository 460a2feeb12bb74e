-- `in_sixteens`: each block tells of the bytes up to its end, since none stands before it (`among_block`). Assumes nothing.
use mathlib.Core.Path.{◌≡◌, sym, ◌∙◌}
use Prim.Native.Nat.{◌+◌, ◌-◌, ◌≤◌}
use native.Mathlib.Omega.{arith}
use borrow.Author.Tests.{lt-ltb, ltb-true, ltb-false}
use lib.ListN.{length}
use Rattle.scan.specs.Scan.{before}
use Rattle.scan.proofs.Steps.{among_block}
use Rattle.scan.proofs.in_sixteens.Goals as goal
use Rattle.scan.proofs.in_sixteens.Goals.{else-loop-k-test, then-loop-k-test+else-in_block+else-last-k-gt16}

pub returns-then-in_block : goal.returns-then-in_block
returns-then-in_block c =
    let block = among_block c.args.b c.args.part.now c.loop-k.k (c.loop-k.k + 16) c.loop-k.invariant.0 (omega arith) (omega arith) in
    let found = ltb-true (before c.args.b c.args.part.now) (c.loop-k.k + 16) (sym block ∙ sym c.in_block.ensures ∙ c.if-in_block.true) in
    sym (lt-ltb (before c.args.b c.args.part.now) (length c.args.part.now) (omega arith))

pub loop-k-preserved : goal.loop-k-preserved
loop-k-preserved c =
    let block = among_block c.args.b c.args.part.now c.loop-k.k (c.loop-k.k + 16) c.loop-k.invariant.0 (omega arith) (omega arith) in
    (ltb-false _ _ (sym block ∙ sym c.in_block.ensures ∙ c.if-in_block.false), omega arith)

pub returns : goal.returns
returns c =
    let none : length c.args.part.now - 16 ≤ before c.args.b c.args.part.now =
    elim c.loop-k-test.branch [
      | else-loop-k-test w ↦ omega (arith, c.loop-k.invariant)
      | then-loop-k-test+else-in_block+else-last-k-gt16 w ↦
          let block = among_block c.args.b c.args.part.now c.loop-k.k (c.loop-k.k + 16) c.loop-k.invariant.0 (omega arith) (omega arith) in
          let past = ltb-false (before c.args.b c.args.part.now) (c.loop-k.k + 16) (sym block ∙ sym w.in_block.ensures ∙ w.if-in_block.false) in
          omega arith
    ] in
    c.in_block-2.ensures ∙ among_block c.args.b c.args.part.now (length c.args.part.now - 16) (length c.args.part.now) none (omega arith) (omega arith)
