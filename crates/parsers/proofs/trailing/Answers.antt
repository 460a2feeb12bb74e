-- `trailing`: what is left of the characters, trimmed, is the characters trimmed. Assumes nothing.
use native.Mathlib.Omega.{arith}
use mathlib.Core.Path.{◌≡◌, refl, sym, ◌∙◌}
use Prim.Native.Nat.{◌+◌, ◌-◌, ◌*◌}
use Rattle.parsers.proofs.Texts.{char_from, end_gone, end_kept, end_none}
use Rattle.parsers.proofs.trailing.Goals as goal

pub loop-i-init : goal.loop-i-init
loop-i-init c = refl

pub returns-then-ascii_at-c : goal.returns-then-ascii_at-c
returns-then-ascii_at-c c =
    let e = char_from c.args.bytes.now c.args.at c.args.start (c.args.start + (c.loop-i.i - 1)) (c.loop-i.i - 1) refl in
    let same : c.loop-i.i - 1 + 1 ≡ c.loop-i.i = omega arith in
    record {
      within = omega arith;
      is = rw same (
          sym c.loop-i.invariant
          ∙ end_kept c.args.c c.args.bytes.now (c.args.at + c.args.start * 6) c.loop-i.i c.loop-i-test.true (λ f. c.if-ascii_at-c.true (c.ascii_at.ensures ∙ e ∙ f)));
    }

pub loop-i-preserved : goal.loop-i-preserved
loop-i-preserved c =
    let e = char_from c.args.bytes.now c.args.at c.args.start (c.args.start + (c.loop-i.i - 1)) (c.loop-i.i - 1) refl in
    sym (end_gone c.args.c c.args.bytes.now (c.args.at + c.args.start * 6) c.loop-i.i c.loop-i-test.true (sym (c.ascii_at.ensures ∙ e) ∙ c.if-ascii_at-c.false))
    ∙ c.loop-i.invariant

pub returns : goal.returns
returns c =
    let e : c.loop-i.i ≡ 0 = omega arith in
    record { within = omega arith; is = sym (rw e at c.loop-i.invariant) ∙ end_none c.args.c c.args.bytes.now (c.args.at + c.args.start * 6) 0 refl }
