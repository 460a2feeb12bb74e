-- The rows that tell a status in words, found by computing them for each number. Assumes nothing.
use Prim.Native.Nat.{ℕ}
use mathlib.Core.Path.{◌≡◌, ap}
use mathlib.Core.List.{List, [], ◌++◌}
use lib.ListN.{get_or}
use Rattle.text_out.specs.Text.{ascii}
use Rattle.face_rows.specs.Rows.{printed_from}
use Rattle.layout_numbers.specs.Places.{status}
use Rattle.face_rows.proofs.Says.{Says}
use Rattle.face_rows.proofs.Chosen.{Tells, chosen_says}
use Rattle.face_members.specs.Members.{key}
use Rattle.face_members.specs.Words.{statuses, spelt, status_word}
use Rattle.face_members.proofs.Statuses.{capped}
use Rattle.face_json.specs.Tables.{status_table}

abbrev status_by : ℕ → List ℕ
status_by n = key "status_text" ++ status_word n

statuses-told : Tells status 15 status_table status_by
unfolding printed_from
statuses-told = tt

module _ {numbers texts : List ℕ} (n : ℕ) where
  pub status-says : get_or numbers status 0 ≡ n → Says numbers texts status_table (key "status_text" ++ status_word n)
  status-says e =
      let same = capped 15 n (λ (k : ℕ). ascii "\"" ++ get_or (spelt statuses) k [] ++ ascii "\"") in
      chosen_says status 15 status_table status_by statuses-told n e (ap (λ (s : List ℕ). key "status_text" ++ s) same)
