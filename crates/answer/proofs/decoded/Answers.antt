-- `decoded`: each way out is one law (proofs/Laws). Assumes nothing.
use Prim.Native.Nat.{◌≤◌}
use mathlib.Core.Path.{refl, sym}
use native.Mathlib.Omega.{arith}
use lib.Seq.{length-take-le}
use Rattle.answer.proofs.Laws.{decoded_12, decoded_12_bits, decoded_6, decoded_refused, decoded_parsed, unarmored-fits}
use Rattle.answer.proofs.decoded.Goals as goal

pub returns-then-payload-lt384 : goal.returns-then-payload-lt384
returns-then-payload-lt384 c = decoded_12 c.args.s c.args.handed.now c.args.payload.now _ c.args.bits.now (omega arith) c.refuse.ensures

pub returns-then-bits-lt288 : goal.returns-then-bits-lt288
returns-then-bits-lt288 c = decoded_12_bits c.args.s c.args.handed.now c.args.payload.now _ c.args.bits.now (omega arith) (omega arith) c.refuse-then-bits-lt288.ensures

pub returns-then-handed-gt384 : goal.returns-then-handed-gt384
returns-then-handed-gt384 c = decoded_6 c.args.s c.args.handed.now c.args.payload.now _ c.args.bits.now (omega arith) (omega arith) (omega arith) c.refuse-then-handed-gt384.ensures

pub returns-in-Err : goal.returns-in-Err
returns-in-Err c =
    decoded_refused c.args.s c.args.handed.now c.args.payload.now _ c.args.bits.now c.if-payload-lt384.false c.if-bits-lt288.false
    c.if-handed-gt384.false c.unarmor.result _ _ refl c.unarmor.ensures _
    c.in-Err.is
    c.refuse-in-Err.ensures

pub slice_bounds-scratch-end : goal.slice_bounds-scratch-end
slice_bounds-scratch-end c =
    omega (
      arith,
      c.unarmor.auto.out,
      unarmored-fits c.args.handed.now c.args.s.fill_bit_count c.if-handed-gt384.false c.unarmor.result _ _ refl
          c.unarmor.ensures _ c.in-Ok.is,
    )

pub slice_bounds-parsed-end : goal.slice_bounds-parsed-end
slice_bounds-parsed-end c =
    sym (length-take-le _ _ (omega (
      arith,
      c.unarmor.auto.out,
      unarmored-fits c.args.handed.now c.args.s.fill_bit_count c.if-handed-gt384.false c.unarmor.result _ _ refl
          c.unarmor.ensures _ c.in-Ok.is,
    )))

pub parsed-requires : goal.parsed-requires
parsed-requires c =
    let k : c.in-Ok.n ≤ 288 = unarmored-fits c.args.handed.now c.args.s.fill_bit_count c.if-handed-gt384.false c.unarmor.result _ _ refl
    c.unarmor.ensures _ c.in-Ok.is in
    let l = length-take-le c.in-Ok.n c.unarmor.new.out (omega (arith, c.unarmor.auto.out, k)) in (
      record { few = c.if-handed-gt384.false; room = c.if-payload-lt384.false },
      omega (arith, c.if-bits-lt288.false, k, l),
    )

pub returns-in-Ok : goal.returns-in-Ok
returns-in-Ok c =
    decoded_parsed c.args.s c.args.handed.now c.args.payload.now c.parsed.result c.args.bits.now c.if-payload-lt384.false
    c.if-bits-lt288.false
    c.if-handed-gt384.false c.unarmor.result _ c.unarmor.new.out refl c.unarmor.ensures
    c.in-Ok.n c.in-Ok.is _ _ c.parsed.ensures
