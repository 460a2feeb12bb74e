-- `face_json::put_body` meets its contract. Assumes nothing.
use Rattle.std.proofs.Common.{rules}
use mathlib.Core.Path.{sym, ap, ◌∙◌}
use Rattle.text_out.specs.Text.{put}
use Rattle.text_out.proofs.Laws.{put_then}
use Rattle.face_rows.specs.Rows.{printed}
use Rattle.face_rows.specs.Code.{rows_in}
use Rattle.face_rows.proofs.Says.{own_says}
use Rattle.face_json.specs.Tables.{head_table}
use Rattle.face_json.proofs.put_body.Goals as goal

pub returns : goal.returns
returns c = record {
  same = search rules;
  is = put_then _ (printed head_table c.args.numbers.now c.args.texts.now) _ c.put_head.ensures.is c.put_rows.ensures.is
      ∙ ap (put _) (sym ((own_says c.args.numbers.now c.args.texts.now head_table tt).first (rows_in c.args.rows.now)));
}
