-- `sum_to_star`: a star with none before it is the first (`first-is`). Assumes nothing.
use mathlib.Core.Path.{sym, ◌∙◌}
use Prim.Native.Nat.{◌-◌}
use native.Mathlib.Omega.{arith}
use Rattle.scan.specs.Scan.{star}
use Rattle.scan.proofs.Steps.{first-is, among_part, sum_found}
use Rattle.scan.proofs.sum_to_star.Goals as goal

pub returns : goal.returns
returns c =
    let none = sym (among_part star c.args.line.now c.args.at (c.likely-near.result - c.args.at) (omega arith)) ∙ sym c.sweep-sum.ensures.star_value ∙ c.if-starred.false in
    let first = first-is star c.args.line.now c.args.at _ (omega arith) (omega arith) (c.likely-near.ensures (omega arith)) none in
    sum_found c.args.line.now c.args.at _ first _ (omega arith) c.sweep-sum.ensures.sum_value
