-- `take_late`: a place that holds the byte, with none before it (`first-is`). Assumes nothing.
use mathlib.Core.Path.{sym, ◌∙◌}
use Prim.Native.Nat.{◌-◌}
use native.Mathlib.Omega.{arith}
use Rattle.scan.proofs.Steps.{first-is, among_part}
use Rattle.scan.proofs.take_late.Goals as goal

pub returns : goal.returns
returns c =
    let none = sym (among_part c.args.b c.args.line.now c.args.at (c.likely-near.result - c.args.at) (omega arith)) ∙ sym c.holds.ensures ∙ c.if-holds.false in
    first-is c.args.b c.args.line.now c.args.at _ (omega arith) (omega arith) (c.likely-near.ensures (omega arith)) none
