-- `face_values::billionths` meets its contract. Assumes nothing.
use native.Mathlib.Omega.{arith}
use mathlib.Core.Path.{◌≡◌}
use Prim.Native.Nat.{◌-◌, ◌*◌, ◌/◌, ◌%◌, ◌^◌, ◌≤◌}
use Rattle.face_values.proofs.Rates.{power, tiny, near}
use borrow.Author.Rules.{rules}
use Rattle.face_values.proofs.billionths.Goals as goal

pub returns-then-shift-gt60 : goal.returns-then-shift-gt60
returns-then-shift-gt60 c = tiny c.args.pattern c.requires c.if-shift-gt60.true

pub overflow_add-result : goal.overflow_add-result
overflow_add-result c =
    let s = 150 - c.args.pattern / 2 ^ 23 in
    let one : 1 * 2 ^ s % 2 ^ 64 ≡ 2 ^ s = (power s (omega arith)).0 in
    let low : 2 ^ s ≤ 2 ^ 60 = (power s (omega arith)).1 in
    search rules

pub returns : goal.returns
returns c = near c.args.pattern c.requires c.if-shift-gt60.false
