-- `field`: place `at` is bit `at % 8` of byte `at / 8`. Assumes nothing.
use mathlib.Core.Path.{◌≡◌, refl, sym, ◌∙◌}
use Prim.Native.Nat.{◌+◌, ◌*◌, ◌/◌, ◌%◌}
use native.Mathlib.Omega.{arith}
use lib.Pow.{pow_pos}
use Rattle.parsers.specs.Field.{field_of}
use Rattle.parsers.proofs.Fields.{field_wide, field_is, field_lt}
use Rattle.parsers.proofs.field.Goals as goal

pub returns-then-width-gt56 : goal.returns-then-width-gt56
returns-then-width-gt56 c = record { is = sym (field_wide _ _ _ c.if-width-gt56.true); fits = pow_pos _ }

pub returns : goal.returns
returns c =
    let place : c.args.at / 8 * 8 + c.args.at % 8 ≡ c.args.at = omega arith in
    let e : c.cut_out.result ≡ field_of c.args.bytes.now c.args.at c.args.width =
    rw place at c.cut_out.ensures ∙ sym (field_is c.args.bytes.now c.args.at c.args.width (omega arith)) in
    rw e (record { is = refl; fits = field_lt c.args.bytes.now c.args.at c.args.width })
