-- `parse_u8_digit` meets its contract: no digit, one with none after it, or as many as there are. Assumes nothing.
use mathlib.Core.Path.{◌≡◌, sym, ◌∙◌, ap}
use mathlib.Core.List.{List, ◌∷◌}
use Prim.Native.Nat.{ℕ, ◌+◌, ◌-◌, ◌*◌}
use native.Mathlib.Omega.{arith}
use lib.ListN.{length}
use Rattle.std.specs.Prelude.{None}
use Rattle.scan.specs.Scan.{decimal, value}
use Rattle.scan.proofs.Steps.{run-next, digit-inside, digit-missing, no_digit, some-digit}
use Rattle.scan.proofs.parse_u8_digit.Goals as goal

pub returns-in_err-d : goal.returns-in_err-d
unfolding decimal
returns-in_err-d c =
    let none = digit-missing 10 c.args.line.now c.args.at (length c.args.line.now) (λ h. omega arith) (sym c.in_err-d.ensures) in
    rw c.from_residual.ensures (sym (no_digit 10 (length c.args.line.now) c.args.line.now c.args.at (ap length none)))

pub returns-then-is_none : goal.returns-then-is_none
unfolding decimal value
returns-then-is_none c =
    let first = digit-inside 10 c.args.line.now c.args.at 0 _ (sym c.in_ok-d.ensures) in
    let second : c.digit_at-2.result ≡ None = grind arith in
    let none = digit-missing 10 c.args.line.now (c.args.at + 1) (length c.args.line.now - 1) (λ k. omega arith) (sym c.digit_at-2.ensures ∙ second) in
    let one = run-next 10 c.args.line.now c.args.at (length c.args.line.now) c.in_ok-d.d first.0 (omega arith) first.1 ∙ ap (λ (l : List ℕ). c.in_ok-d.d ∷ l) none in
    let same : 0 * 10 + c.in_ok-d.d ≡ c.in_ok-d.d = omega arith in
    sym (some-digit 10 (length c.args.line.now) c.args.line.now c.args.at c.in_ok-d.d (c.args.at + 1) (omega arith) (omega arith) (ap (value 10 0) one ∙ same) (ap (λ (l : List ℕ). c.args.at + length l) one))

pub returns : goal.returns
unfolding decimal
returns c = c.digits.ensures
