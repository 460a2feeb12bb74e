-- `remaining_bits`: the whole bytes from the place on, less the bits before it. Assumes nothing.
use native.Mathlib.Omega.{arith}
use Rattle.parsers.proofs.Fields.{remaining_none, remaining_many, remaining_is}
use mathlib.Core.Path.{◌∙◌, ◌≡◌}
use Prim.Native.Nat.{◌-◌, ◌*◌, ◌/◌, ◌%◌}
use lib.ListN.{length}
use Rattle.parsers.proofs.remaining_bits.Goals as goal

pub returns-then-bytes-first : goal.returns-then-bytes-first
returns-then-bytes-first c = remaining_none _ _ (omega arith)

pub returns-then-whole-gt1152921504606846976 : goal.returns-then-whole-gt1152921504606846976
returns-then-whole-gt1152921504606846976 c = remaining_many _ _ (omega arith)

pub returns : goal.returns
returns c =
    let n = length c.args.bytes.now in
    let e : (n - c.args.at / 8) * 8 - c.args.at % 8 ≡ n * 8 - c.args.at = omega arith in
    e ∙ remaining_is _ _ (omega arith)
