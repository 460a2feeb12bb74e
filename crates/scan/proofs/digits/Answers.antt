-- `digits` meets its contract: the digits left, after those of value v, give the same number from each byte passed. Assumes nothing.
use mathlib.Core.Path.{◌≡◌, refl, sym, ◌∙◌, ap}
use mathlib.Core.List.{List, []}
use Prim.Native.Nat.{ℕ, ◌-◌, ◌+◌, ◌*◌}
use native.Mathlib.Nat.{mul-le-mul}
use native.Mathlib.Omega.{arith}
use lib.ListN.{length, take, drop, length-take, length-drop}
use Rattle.scan.specs.Scan.{digits, value}
use Rattle.scan.proofs.Steps.{run, run_end, digits-next, value-next, digits_stop, digits_end, front-is, value_grows, too_large, no_digit, some-digit}
use Rattle.scan.proofs.digits.Goals as goal
use Rattle.scan.proofs.digits.Goals.{else-loop-b-test, then-loop-b-test+in_default}

pub returns-then-line-at : goal.returns-then-line-at
returns-then-line-at c = sym (no_digit c.args.radix c.args.most c.args.line.now c.args.at (ap length (run_end c.args.radix c.args.line.now c.args.at c.args.most c.if-line-at.true)))

pub loop-b-init : goal.loop-b-init
loop-b-init c = (refl, omega arith, omega arith, refl)

pub overflow_mul-v : goal.overflow_mul-v
overflow_mul-v c = omega (arith, mul-le-mul c.loop-b.invariant.2 c.requires.1)

pub overflow_add-v : goal.overflow_add-v
overflow_add-v c = omega (arith, mul-le-mul c.loop-b.invariant.2 c.requires.1, c.from.ensures)

-- after a digit, what is left gives the same number
pub returns-then-v-gt255 : goal.returns-then-v-gt255
returns-then-v-gt255 c =
    let a = c.args in
    let l = c.loop-b in
    let part = take c.min.result (take (length a.line.now - a.at) (drop a.at a.line.now)) in
    let next = value-next a.radix part l.b-index l.v _ c.loop-b-test.true (sym c.to_digit.ensures ∙ c.in-Some.is) ∙ l.invariant.0 in
    let grows = value_grows a.radix (l.v * a.radix + c.in-Some.d) (digits a.radix (drop (l.b-index + 1) part)) c.requires.0 in
    let same = ap (λ (n : ℕ). value a.radix 0 (digits a.radix (take n (take (length a.line.now - a.at) (drop a.at a.line.now))))) c.min.ensures
    ∙ ap (λ (bs : List ℕ). value a.radix 0 (digits a.radix bs)) (front-is a.line.now a.at a.most) in
    sym (too_large a.radix a.most a.line.now a.at (omega (arith, next, grows, same, c.from.ensures)))

pub overflow_add-count : goal.overflow_add-count
overflow_add-count c = omega (arith, c.loop-b.invariant.3)

pub loop-b-preserved : goal.loop-b-preserved
loop-b-preserved c =
    let a = c.args in
    let l = c.loop-b in
    let part = take c.min.result (take (length a.line.now - a.at) (drop a.at a.line.now)) in
    let e = sym c.to_digit.ensures ∙ c.in-Some.is in (
      rw c.from.ensures (value-next a.radix part l.b-index l.v _ c.loop-b-test.true e ∙ l.invariant.0),
      omega (arith, l.invariant.1, ap length (digits-next a.radix part l.b-index _ c.loop-b-test.true e)),
      omega arith,
      omega (arith, l.invariant.3),
    )

-- at the end no digit is left
pub returns-then-count-eq0 : goal.returns-then-count-eq0
returns-then-count-eq0 c =
    let a = c.args in
    let l = c.loop-b in
    let part = take c.min.result (take (length a.line.now - a.at) (drop a.at a.line.now)) in
    let ended : digits a.radix (drop l.b-index part) ≡ [] =
    elim c.loop-b-test.branch [
      | else-loop-b-test w ↦ digits_end a.radix part l.b-index w.loop-b-test.false
      | then-loop-b-test+in_default w ↦ digits_stop a.radix part l.b-index w.loop-b-test.true (sym w.to_digit.ensures ∙ w.in_default.is)
    ] in
    let same = ap (λ (n : ℕ). digits a.radix (take n (take (length a.line.now - a.at) (drop a.at a.line.now)))) c.min.ensures
    ∙ ap (digits a.radix) (front-is a.line.now a.at a.most) in
    sym (no_digit a.radix a.most a.line.now a.at (omega (arith, l.invariant.1, l.invariant.3, ap length ended, ap length same)))

pub overflow_cast-result : goal.overflow_cast-result
overflow_cast-result c = omega (arith, c.loop-b.invariant.2)

pub overflow_add-result : goal.overflow_add-result
overflow_add-result c =
    omega (
      arith,
      c.loop-b.invariant.3,
      length-take c.min.result (take (length c.args.line.now - c.args.at) (drop c.args.at c.args.line.now)),
      length-take (length c.args.line.now - c.args.at) (drop c.args.at c.args.line.now),
      length-drop c.args.at c.args.line.now,
    )

pub returns : goal.returns
unfolding value
returns c =
    let a = c.args in
    let l = c.loop-b in
    let part = take c.min.result (take (length a.line.now - a.at) (drop a.at a.line.now)) in
    let ended : digits a.radix (drop l.b-index part) ≡ [] =
    elim c.loop-b-test.branch [
      | else-loop-b-test w ↦ digits_end a.radix part l.b-index w.loop-b-test.false
      | then-loop-b-test+in_default w ↦ digits_stop a.radix part l.b-index w.loop-b-test.true (sym w.to_digit.ensures ∙ w.in_default.is)
    ] in
    let same = ap (λ (n : ℕ). digits a.radix (take n (take (length a.line.now - a.at) (drop a.at a.line.now)))) c.min.ensures
    ∙ ap (digits a.radix) (front-is a.line.now a.at a.most) in
    sym (some-digit a.radix a.most a.line.now a.at l.v (a.at + l.count) (omega arith) l.invariant.2
    (ap (value a.radix 0) (sym same) ∙ sym l.invariant.0 ∙ ap (value a.radix l.v) ended)
    (omega (arith, l.invariant.1, l.invariant.3, ap length ended, ap length same)))
