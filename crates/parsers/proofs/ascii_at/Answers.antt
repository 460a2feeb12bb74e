-- `ascii_at`: the place in bits, from the place in bytes and the bits within. Assumes nothing.
use native.Mathlib.Omega.{arith}
use mathlib.Core.Path.{◌≡◌, sym, ap, ◌∙◌}
use Prim.Native.Nat.{◌+◌, ◌*◌, ◌/◌, ◌%◌}
use Rattle.parsers.specs.Field.{field_of}
use Rattle.parsers.specs.Text.{ascii_of}
use Rattle.parsers.proofs.Laws.{val-lt, bit_lt}
use Rattle.parsers.proofs.Fields.{field_is}
use Rattle.parsers.proofs.ascii_at.Goals as goal

pub sixbit_to_ascii-requires : goal.sixbit_to_ascii-requires
sixbit_to_ascii-requires c = rw c.cut_out.ensures (val-lt _ (bit_lt 8 _) _ 6)

pub returns : goal.returns
returns c =
    let bit = c.args.at % 8 + c.args.i * 6 in
    let place : (c.args.at / 8 + bit / 8) * 8 + bit % 8 ≡ c.args.at + c.args.i * 6 = omega arith in
    let e : c.cut_out.result ≡ field_of c.args.bytes.now (c.args.at + c.args.i * 6) 6 =
    rw place at c.cut_out.ensures ∙ sym (field_is _ _ 6 (omega arith)) in
    c.sixbit_to_ascii.ensures ∙ ap ascii_of e
