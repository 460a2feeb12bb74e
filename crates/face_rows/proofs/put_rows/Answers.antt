-- `face_rows::put_rows` meets its contract. Assumes nothing.
use Rattle.std.proofs.Common.{rules}
use native.Mathlib.Omega.{arith}
use mathlib.Core.Path.{◌≡◌, sym, ap, ◌∙◌}
use mathlib.Core.List.{append-nil}
use Rattle.text_out.specs.Text.{put}
use Rattle.text_out.specs.Output.{stands}
use Rattle.text_out.proofs.Laws.{put-nothing}
use Rattle.face_rows.proofs.Steps.{rows_end, row_skipped, row_shown, row_hidden}
use Rattle.face_rows.proofs.put_rows.Goals.{in-Words+then-holds, in-Words+else-holds, in-Put+then-holds-2, in-Put+else-holds-2, in-Group+then-not-holds, in-Group+else-not-holds}
use Rattle.face_rows.proofs.put_rows.Goals as goal

pub loop-row-preserved-then-skip-gt0 : goal.loop-row-preserved-then-skip-gt0
loop-row-preserved-then-skip-gt0 c = record {
  same = search rules;
  is = row_skipped c.args.numbers.now c.args.texts.now (stands c.loop-row.out) c.args.rows.now c.loop-row.row-index c.loop-row.skip c.loop-row-test.true c.loop-row.invariant.is c.if-skip-gt0.true;
}

pub loop-row-preserved : goal.loop-row-preserved
loop-row-preserved c = record {
  same = search rules;
  is =
      let none : c.loop-row.skip ≡ 0 = omega arith in
      elim c.match-row.branch [
        | in-Words+then-holds w ↦
            rw (w.out-is, w.skip-is, none)
            (row_shown c.args.numbers.now c.args.texts.now (stands c.loop-row.out) c.args.rows.now c.loop-row.row-index c.loop-row.skip c.loop-row-test.true c.loop-row.invariant.is c.if-skip-gt0.false _ w.in-Words.is (sym w.holds.ensures ∙ w.if-holds.true)
            (w.put_bytes.ensures.is ∙ ap (put _) (sym (append-nil w.in-Words.word.now))))
        | in-Words+else-holds w ↦
            rw (w.out-is, w.skip-is, none)
            (row_hidden c.args.numbers.now c.args.texts.now (stands c.loop-row.out) c.args.rows.now c.loop-row.row-index c.loop-row.skip c.loop-row-test.true c.loop-row.invariant.is c.if-skip-gt0.false _ w.in-Words.is (sym w.holds.ensures ∙ w.if-holds.false))
        | in-Put+then-holds-2 w ↦
            rw (w.out-is, w.skip-is, none)
            (row_shown c.args.numbers.now c.args.texts.now (stands c.loop-row.out) c.args.rows.now c.loop-row.row-index c.loop-row.skip c.loop-row-test.true c.loop-row.invariant.is c.if-skip-gt0.false _ w.in-Put.is (sym w.holds-in-Put.ensures ∙ w.if-holds-2.true) w.put_row.ensures.is)
        | in-Put+else-holds-2 w ↦
            rw (w.out-is, w.skip-is, none)
            (row_hidden c.args.numbers.now c.args.texts.now (stands c.loop-row.out) c.args.rows.now c.loop-row.row-index c.loop-row.skip c.loop-row-test.true c.loop-row.invariant.is c.if-skip-gt0.false _ w.in-Put.is (sym w.holds-in-Put.ensures ∙ w.if-holds-2.false))
        | in-Group+then-not-holds w ↦
            rw (w.out-is, w.skip-is)
            (row_hidden c.args.numbers.now c.args.texts.now (stands c.loop-row.out) c.args.rows.now c.loop-row.row-index c.loop-row.skip c.loop-row-test.true c.loop-row.invariant.is c.if-skip-gt0.false _ w.in-Group.is (sym w.holds-in-Group.ensures ∙ w.if-not-holds.true))
        | in-Group+else-not-holds w ↦
            rw (w.out-is, w.skip-is, none)
            (row_shown c.args.numbers.now c.args.texts.now (stands c.loop-row.out) c.args.rows.now c.loop-row.row-index c.loop-row.skip c.loop-row-test.true c.loop-row.invariant.is c.if-skip-gt0.false _ w.in-Group.is (sym w.holds-in-Group.ensures ∙ w.if-not-holds.false) (sym (put-nothing _)))
      ];
}

pub returns : goal.returns
returns c = record { same = search rules; is = sym (rows_end c.args.numbers.now c.args.texts.now (stands c.loop-row.out) c.args.rows.now c.loop-row.row-index c.loop-row.skip c.loop-row-test.false) ∙ c.loop-row.invariant.is }
