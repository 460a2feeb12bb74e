-- `leading`: what is left of the text, trimmed, is the text trimmed. Assumes nothing.
use native.Mathlib.Nat.{add-zero, sub-zero}
use native.Mathlib.Omega.{arith}
use mathlib.Core.Path.{◌≡◌, sym, ◌∙◌}
use Prim.Native.Nat.{◌+◌, ◌-◌, ◌*◌}
use Rattle.parsers.proofs.Texts.{start_gone, start_kept, start_none}
use Rattle.parsers.proofs.leading.Goals as goal

pub loop-i-init : goal.loop-i-init
loop-i-init c = rw (add-zero, sub-zero)

pub returns-then-ascii_at-ne32 : goal.returns-then-ascii_at-ne32
returns-then-ascii_at-ne32 c =
    record {
      within = omega arith;
      is = sym c.loop-i.invariant ∙ start_kept c.args.bytes.now c.args.at c.loop-i.i c.args.count (omega arith) (λ e. c.if-ascii_at-ne32.true (c.ascii_at.ensures ∙ e));
    }

pub loop-i-preserved : goal.loop-i-preserved
loop-i-preserved c =
    sym (start_gone c.args.bytes.now c.args.at c.loop-i.i c.args.count (omega arith) (sym c.ascii_at.ensures ∙ c.if-ascii_at-ne32.false)) ∙ c.loop-i.invariant

pub returns : goal.returns
returns c =
    let e : c.loop-i.i ≡ c.args.count = omega arith in
    record {
      within = omega arith;
      is = sym (rw e at c.loop-i.invariant) ∙ start_none c.args.bytes.now (c.args.at + c.args.count * 6) (c.args.count - c.args.count) (omega arith);
    }
