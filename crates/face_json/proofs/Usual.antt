-- What most lines have: talker AI and report type VDM. Assumes nothing.
use Prim.Native.Nat.{ℕ}
use mathlib.Core.Path.{◌≡◌}
use mathlib.Core.List.{List}
use lib.ListN.{get_or}
use Rattle.text_out.specs.Text.{ascii}
use Rattle.face_rows.specs.Rows.{is, is_not, nothing, printed}
use Rattle.layout_numbers.specs.Places.{talker, report}
use Rattle.face_rows.proofs.Says.{Says, ◌then◌, whole, row-says, group_silent}
use Rattle.face_json.specs.Tables.{other_talkers, talker_table, other_reports, report_table, origin_table}

module _ (numbers texts : List ℕ) where
  talker_ai : get_or numbers talker 0 ≡ 3 → Says numbers texts talker_table (ascii ",\"talker\":\"AI\"")
  talker_ai e = row-says (is talker 3) (rw e) (ascii ",\"talker\":\"AI\"") nothing then group_silent (is_not talker 3) (rw e) other_talkers

  report_vdm : get_or numbers report 0 ≡ 1 → Says numbers texts report_table (ascii ",\"report\":\"VDM\"")
  report_vdm e = row-says (is report 1) (rw e) (ascii ",\"report\":\"VDM\"") nothing then group_silent (is_not report 1) (rw e) other_reports

  pub usual_origin : get_or numbers talker 0 ≡ 3 → get_or numbers report 0 ≡ 1
      → printed origin_table numbers texts ≡ ascii ",\"talker\":\"AI\",\"report\":\"VDM\""
  usual_origin e d = whole (talker_ai e then report_vdm d)
