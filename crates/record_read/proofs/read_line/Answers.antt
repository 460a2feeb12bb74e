-- `record_read::read_line` meets its contract: refused before the record, or its sentence. Assumes nothing.
use mathlib.Core.Path.{sym, ap, ◌∙◌}
use native.Mathlib.Omega.{arith}
use Rattle.ais.specs.Parts.{checked_in}
use Rattle.ais.proofs.Called.{its-sentence, its-parsed}
use Rattle.record_bytes.specs.Bytes.{record_in}
use Rattle.record_read.proofs.Calls.{reads_early, reads_sentence}
use Rattle.record_read.proofs.read_line.Goals as goal

pub slice_bounds-read_sentence-count : goal.slice_bounds-read_sentence-count
slice_bounds-read_sentence-count c =
    omega (
      arith,
      (its-sentence _ _ (its-parsed (record_in c.args.state.now) c.args.line.now c.args.decode c.args.payload.now c.args.bits.now _
          (sym c.check.ensures ∙ ap checked_in c.in-Ok.is))).some-payload,
    )

pub slice_bounds-read_sentence-start : goal.slice_bounds-read_sentence-start
slice_bounds-read_sentence-start c =
    omega (
      arith,
      (its-sentence _ _ (its-parsed (record_in c.args.state.now) c.args.line.now c.args.decode c.args.payload.now c.args.bits.now _
          (sym c.check.ensures ∙ ap checked_in c.in-Ok.is))).some-payload,
    )

pub slice_bounds-read_sentence-end : goal.slice_bounds-read_sentence-end
slice_bounds-read_sentence-end c =
    omega (
      arith,
      (its-sentence _ _ (its-parsed (record_in c.args.state.now) c.args.line.now c.args.decode c.args.payload.now c.args.bits.now _
          (sym c.check.ensures ∙ ap checked_in c.in-Ok.is))).payload-inside,
    )

pub read_sentence-requires : goal.read_sentence-requires
read_sentence-requires c = c.requires

pub returns-in-Err : goal.returns-in-Err
returns-in-Err c =
    reads_early c.args.state.now c.requires c.args.payload.now c.args.bits.now c.args.decode c.args.line.now c.in-Err.refusal
    (sym c.check.ensures ∙ ap checked_in c.in-Err.is) c.keep.ensures
    c.tell_refused.ensures

pub returns-in-Ok : goal.returns-in-Ok
returns-in-Ok c =
    reads_sentence c.args.state.now c.requires c.args.payload.now c.args.bits.now c.args.decode c.args.line.now _
    (sym c.check.ensures ∙ ap checked_in c.in-Ok.is) c.read_sentence.ensures
