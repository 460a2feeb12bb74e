-- `cut_out`: the bytes that hold the field are a window; `>>` and the mask leave the field (`val-field`). Assumes nothing.
use Prim.Native.Nat.{◌+◌, ◌-◌, ◌*◌, ◌/◌}
use native.Mathlib.Omega.{arith}
use lib.Pow.{pow_pos}
use Rattle.parsers.specs.Bits.{bit_at}
use Rattle.parsers.proofs.Laws.{val_field, bit_lt}
use Rattle.parsers.proofs.Fields.{one_shl}
use Rattle.parsers.proofs.cut_out.Goals as goal

pub overflow_sub-result : goal.overflow_sub-result
overflow_sub-result c = rw (one_shl c.args.width 64 (omega arith)) (pow_pos _)

pub returns : goal.returns
returns c =
    let n = (c.args.off + c.args.width + 7) / 8 * 8 in
    rw (one_shl c.args.width 64 (omega arith))
    (val_field (bit_at 8 c.args.bytes.now) (bit_lt 8 c.args.bytes.now) (c.args.first * 8) c.args.off c.args.width (n - c.args.off - c.args.width) n (c.args.first * 8 + c.args.off)
    c.window-all.ensures (omega arith) (omega arith))
