-- The rows that tell a number in words say what json_told/specs/Object says of it. Assumes nothing.
use Prim.Native.Nat.{ℕ}
use mathlib.Core.Path.{◌≡◌, refl, ap}
use mathlib.Core.List.{List, [], ◌∷◌}
use lib.ListN.{get_or}
use Rattle.sentence.specs.declared.TalkerId.{TalkerId}
use Rattle.sentence.specs.declared.AisReportType.{AisReportType}
use Rattle.text_out.specs.Text.{ascii}
use Rattle.layout_answer.specs.Sentence.{talker_number, report_number}
use Rattle.face_rows.specs.Rows.{printed_from}
use Rattle.layout_numbers.specs.Places as at
use Rattle.face_members.specs.Words.{ship_types}
use Rattle.face_members.proofs.Statuses.{capped}
use Rattle.face_json.specs.Tables.{talker_table, report_table, ship_table}
use Rattle.json_told.specs.Object.{member, in_quotes, talker_text, report_text, ship_name}
use Rattle.face_rows.proofs.Says.{Says}
use Rattle.face_rows.proofs.Chosen.{Tells, chosen_says}

-- ---- by a list: nothing is said of a number beyond it
abbrev listed : List (List ℕ) → ℕ → List ℕ
listed l k = get_or l k []

abbrev talkers : ℕ → List ℕ
talkers =
    listed
    (ascii ",\"talker\":null"
    ∷ ascii ",\"talker\":\"AB\""
    ∷ ascii ",\"talker\":\"AD\""
    ∷ ascii ",\"talker\":\"AI\""
    ∷ ascii ",\"talker\":\"AN\""
    ∷ ascii ",\"talker\":\"AR\""
    ∷ ascii ",\"talker\":\"AS\""
    ∷ ascii ",\"talker\":\"AT\""
    ∷ ascii ",\"talker\":\"AX\""
    ∷ ascii ",\"talker\":\"BS\""
    ∷ ascii ",\"talker\":\"SA\""
    ∷ [])

abbrev reports : ℕ → List ℕ
reports = listed (ascii ",\"report\":null" ∷ ascii ",\"report\":\"VDM\"" ∷ ascii ",\"report\":\"VDO\"" ∷ [])

talkers-told : Tells at.talker 11 talker_table talkers
unfolding printed_from
talkers-told = tt

reports-told : Tells at.report 3 report_table reports
unfolding printed_from
reports-told = tt

module _ {numbers texts : List ℕ} where
  pub talker-says : (t : TalkerId) → get_or numbers at.talker 0 ≡ talker_number t → Says numbers texts talker_table (member "talker" (talker_text t))
  talker-says TalkerId.Unknown e = chosen_says at.talker 11 talker_table talkers talkers-told 0 e refl
  talker-says TalkerId.AB e = chosen_says at.talker 11 talker_table talkers talkers-told 1 e refl
  talker-says TalkerId.AD e = chosen_says at.talker 11 talker_table talkers talkers-told 2 e refl
  talker-says TalkerId.AI e = chosen_says at.talker 11 talker_table talkers talkers-told 3 e refl
  talker-says TalkerId.AN e = chosen_says at.talker 11 talker_table talkers talkers-told 4 e refl
  talker-says TalkerId.AR e = chosen_says at.talker 11 talker_table talkers talkers-told 5 e refl
  talker-says TalkerId.AS e = chosen_says at.talker 11 talker_table talkers talkers-told 6 e refl
  talker-says TalkerId.AT e = chosen_says at.talker 11 talker_table talkers talkers-told 7 e refl
  talker-says TalkerId.AX e = chosen_says at.talker 11 talker_table talkers talkers-told 8 e refl
  talker-says TalkerId.BS e = chosen_says at.talker 11 talker_table talkers talkers-told 9 e refl
  talker-says TalkerId.SA e = chosen_says at.talker 11 talker_table talkers talkers-told 10 e refl

  pub report-says : (t : AisReportType) → get_or numbers at.report 0 ≡ report_number t → Says numbers texts report_table (member "report" (report_text t))
  report-says AisReportType.Unknown e = chosen_says at.report 3 report_table reports reports-told 0 e refl
  report-says AisReportType.VDM e = chosen_says at.report 3 report_table reports reports-told 1 e refl
  report-says AisReportType.VDO e = chosen_says at.report 3 report_table reports reports-told 2 e refl

-- ---- null from a number on
abbrev ship_by : ℕ → List ℕ
ship_by k = member "shiptype_text" (ship_name k)

ships_told : Tells at.the_ship_type 100 ship_table ship_by
unfolding printed_from
ships_told = tt

module _ {numbers texts : List ℕ} (n : ℕ) where
  pub ship_says : get_or numbers at.the_ship_type 0 ≡ n → Says numbers texts ship_table (ship_by n)
  ship_says e =
      let same = capped 100 n (λ (k : ℕ). in_quotes (get_or ship_types k [])) in
      chosen_says at.the_ship_type 100 ship_table ship_by ships_told n e (ap (member "shiptype_text") same)
