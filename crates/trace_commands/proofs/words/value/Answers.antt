-- `trace_commands::words::value` meets its contract: what the digits passed and the rest say is what the word says. Assumes nothing.
use Prim.Native.Nat.{ℕ, ◌+◌, ◌*◌}
use native.Mathlib.Omega.{arith}
use mathlib.Core.Path.{◌≡◌, sym, ap, ◌∙◌}
use lib.ListN.{get_or, drop}
use Rattle.trace_commands.specs.Numbers.{digit_of, number_from}
use Rattle.trace_commands.proofs.Readings.{number-end, number-next, number_no_digit, number_too_large}
use Rattle.trace_commands.proofs.words.value.Goals as goal

pub returns-then-d-gt9 : goal.returns-then-d-gt9
returns-then-d-gt9 c = sym (number_no_digit c.args.w.now c.loop-b.v c.loop-b.b-index (omega arith) (omega (arith, c.digit.ensures, c.from-d.ensures))) ∙ c.loop-b.invariant

pub returns-in_err-checked_mul : goal.returns-in_err-checked_mul
returns-in_err-checked_mul c =
    c.from_residual.ensures
    ∙ sym (number_too_large c.args.w.now c.loop-b.v c.loop-b.b-index (omega arith) (omega (arith, c.digit.ensures, c.from-d.ensures))
    (omega (arith, c.in_err-checked_mul.ensures))) ∙ c.loop-b.invariant

pub returns-in_err-v : goal.returns-in_err-v
returns-in_err-v c =
    c.from_residual-in_err-v.ensures
    ∙ sym (number_too_large c.args.w.now c.loop-b.v c.loop-b.b-index (omega arith) (omega (arith, c.digit.ensures, c.from-d.ensures))
    (omega (arith, c.digit.ensures, c.from-d.ensures, c.in_ok-checked_mul.ensures, c.in_err-v.ensures))) ∙ c.loop-b.invariant

pub loop-b-preserved : goal.loop-b-preserved
loop-b-preserved c =
    let e : c.in_ok-v.v ≡ c.loop-b.v * 10 + digit_of (get_or c.args.w.now c.loop-b.b-index 0) =
    omega (arith, c.digit.ensures, c.from-d.ensures, c.in_ok-checked_mul.ensures, c.in_ok-v.ensures) in
    ap (λ (x : ℕ). number_from x (drop (c.loop-b.b-index + 1) c.args.w.now)) e
    ∙ sym (number-next c.args.w.now c.loop-b.v c.loop-b.b-index (omega arith) (omega (arith, c.digit.ensures, c.from-d.ensures))
    (omega (arith, c.digit.ensures, c.from-d.ensures, c.in_ok-checked_mul.ensures, c.in_ok-v.ensures))) ∙ c.loop-b.invariant

pub returns : goal.returns
returns c = sym (number-end c.args.w.now c.loop-b.v c.loop-b.b-index (omega arith)) ∙ c.loop-b.invariant
