-- `parse`: each way out is one law of the answer (proofs/Answers). Assumes nothing.
use Rattle.interrogation.proofs.Answers.{says_none, says-one, says-cut, says_two}
use Rattle.interrogation.proofs.Laws.{station_takes}
use Rattle.interrogation.proofs.Unique.{promised}
use Prim.Native.Nat.{◌≤◌}
use native.Mathlib.Omega.{arith}
use Rattle.std.specs.Prelude.{Ok}
use Rattle.parsers.specs.Field.{remaining_of}
use Rattle.interrogation.specs.Table.{table}
use Rattle.interrogation.specs.Interrogation.{station_at, station_end}
use mathlib.Core.Path.{◌≡◌, sym, ap, ◌∙◌}
use Rattle.interrogation.proofs.parse.Goals as goal

pub returns-then-remaining_bits-lt36 : goal.returns-then-remaining_bits-lt36
returns-then-remaining_bits-lt36 c = promised c.args.bytes.now _ (sym (says_none _ (omega arith)))

pub returns-then-remaining_bits-lt30 : goal.returns-then-remaining_bits-lt30
returns-then-remaining_bits-lt30 c =
    let h = rw (c.remaining_bits-2.ensures, c.parse-next.ensures.1) at c.if-remaining_bits-lt30.true in
    promised c.args.bytes.now (Ok c.headed.result) (rw (says-one _ (omega arith) h, c.headed.ensures, c.parse-next.ensures.0, c.none.ensures))

pub parse-end-requires : goal.parse-end-requires
parse-end-requires c = omega (arith, station_takes c.args.bytes.now 40)

pub returns-then-remaining_bits-lt2 : goal.returns-then-remaining_bits-lt2
returns-then-remaining_bits-lt2 c =
    let d = c.args.bytes.now in
    let more : 30 ≤ remaining_of d (station_end table d 40) = rw (c.remaining_bits-2.ensures, c.parse-next.ensures.1) at c.if-remaining_bits-lt30.false in
    let close : c.parse-end.result.1 ≡ station_end table d (station_end table d 40) = c.parse-end.ensures.1 ∙ ap (station_end table _) c.parse-next.ensures.1 in
    let h = rw (c.remaining_bits-3.ensures, close) at c.if-remaining_bits-lt2.true in
    promised d _ (sym (says-cut _ (omega arith) more h))

pub returns : goal.returns
returns c =
    let d = c.args.bytes.now in
    let more : 30 ≤ remaining_of d (station_end table d 40) = rw (c.remaining_bits-2.ensures, c.parse-next.ensures.1) at c.if-remaining_bits-lt30.false in
    let second : c.parse-end.result.0 ≡ station_at table d (station_end table d 40) = c.parse-end.ensures.0 ∙ ap (station_at table _) c.parse-next.ensures.1 in
    let close : c.parse-end.result.1 ≡ station_end table d (station_end table d 40) = c.parse-end.ensures.1 ∙ ap (station_end table _) c.parse-next.ensures.1 in
    let h = rw (c.remaining_bits-3.ensures, close) at c.if-remaining_bits-lt2.false in
    promised d (Ok c.headed-2.result) (rw (says_two _ (omega arith) more h, c.headed-2.ensures, second, c.parse-next.ensures.0))
