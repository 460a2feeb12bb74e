-- `face_json::put_origin` meets its contract. Assumes nothing.
use Rattle.std.proofs.Common.{rules}
use mathlib.Core.Path.{sym, ◌∙◌}
use Rattle.face_rows.specs.Code.{rows_in}
use Rattle.face_json.proofs.Usual.{usual_origin}
use Rattle.face_json.proofs.put_origin.Goals as goal

pub returns-then-report-eq1 : goal.returns-then-report-eq1
returns-then-report-eq1 c = record {
  same = search rules;
  is = rw
      (usual_origin c.args.numbers.now c.args.texts.now (sym c.number_at-talker.ensures ∙ c.if-talker-eq3.true)
      (sym c.number_at-report.ensures ∙ c.if-report-eq1.true))
      c.put_bytes.ensures.is;
}

pub returns : goal.returns
unfolding rows_in
returns c = record { same = search rules; is = c.put_rows.ensures.is }
