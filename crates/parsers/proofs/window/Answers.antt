-- `window`: each turn joins one byte more (`val-join`). Assumes nothing.
use mathlib.Core.Path.{refl, sym, ◌∙◌}
use Prim.Native.Nat.{◌+◌, ◌*◌}
use native.Mathlib.Omega.{arith}
use Rattle.parsers.specs.Bits.{val, bit_at}
use Rattle.parsers.proofs.Laws.{val_join, val-item, bit_lt}
use Rattle.parsers.proofs.window.Goals as goal

pub loop-k-init : goal.loop-k-init
unfolding val
loop-k-init c = refl

pub loop-k-preserved : goal.loop-k-preserved
loop-k-preserved c =
    let item = val-item 8 c.args.bytes.now (c.args.first + c.loop-k.k) ((c.args.first + c.loop-k.k) * 8) (omega (arith, c.byte.type_inv, c.byte.ensures)) refl in
    val_join (bit_at 8 c.args.bytes.now) (bit_lt 8 c.args.bytes.now) (c.args.first * 8) (c.loop-k.k * 8) 8 64 ((c.loop-k.k + 1) * 8) ((c.args.first + c.loop-k.k) * 8)
    c.loop-k.invariant (c.byte.ensures ∙ sym item) (omega arith) (omega arith) (omega arith)
