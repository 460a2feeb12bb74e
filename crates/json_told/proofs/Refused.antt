-- What the table of face_json says of a refused line is what json_told/specs/Object says of its number, its values and what is told beside them. Assumes nothing.
use Rattle.std.specs.Prelude.{Option, None, Some}
use Prim.Native.Nat.{ℕ, ◌≤◌, min}
use native.Mathlib.Omega.{arith}
use mathlib.Core.Path.{◌≡◌, refl, ap, ◌∙◌}
use mathlib.Core.Bool.{Bool, true, false, not}
use mathlib.Core.List.{List, [], ◌∷◌, ◌++◌, append-nil}
use lib.Dec.{eqb, leb}
use lib.ListN.{length, get_or, take, drop, replicate}
use lib.Seq.{take-take}
use Rattle.refusal.specs.Words.{pick}
use Rattle.refusal.specs.Refusal.{row_of}
use Rattle.refusal.specs.Values.{count_by}
use Rattle.refusal.proofs.Unique.{counted}
use Rattle.refusal.specs.declared.Refusal.{Refusal}
use Rattle.text_out.specs.Text.{Text, text, put, put1, ascii}
use Rattle.text_out.specs.Digits.{decimal_of}
use Rattle.text_out.proofs.Laws.{take_min}
use Rattle.layout_position.specs.Position.{flag_of}
use Rattle.face_values.specs.Quoted.{quoted_in}
use Rattle.face_rows.specs.Rows.{Row, Test, is, is_not, least, nothing, number, pair, quoted, holds, printed_from}
use Rattle.layout_numbers.specs.Places as at
use Rattle.layout_numbers.specs.Optional.{there_of, value_of}
use Rattle.face_members.specs.Members as face
use Rattle.face_rows.specs.Reasons.{reasons}
use Rattle.face_json.specs.Refused.{values_table, checksum_table, type_table, reason_table, refused_table}
use Rattle.face_json.specs.Line.{refused_line}
use Rattle.json_told.specs.Object.{member, array, reason_of, sum_members, sender_member, type_members, About, refused_object}
use Rattle.json_told.specs.Laid.{refused_numbers}
use Rattle.face_rows.proofs.Says.{Says, ◌then◌, whole, said, row-says, row_silent, group-says, group_silent}
use Rattle.face_members.proofs.Members.{words_say, member-says, member_if_says}
use Rattle.face_rows.proofs.Chosen.{Tells, chosen_says}

-- at most two values
module _ {numbers texts : List ℕ} where
  values_say : (values : List ℕ) → length values ≤ 2 → get_or numbers at.value_count 0 ≡ length values → get_or numbers at.first_value 0 ≡ get_or values 0 0
      → get_or numbers at.second_value 0 ≡ get_or values 1 0 → Says numbers texts values_table (member "values" (array values))
  values_say [] h count one two =
      words_say ",\"values\":["
      then row_silent (least at.value_count 1) (ap (leb 1) count) (ascii "") (number at.first_value)
      then row_silent (least at.value_count 2) (ap (leb 2) count) (ascii ",") (number at.second_value)
      then words_say "]"
  values_say (v ∷ []) h count one two =
      said (ap (λ (l : List ℕ). ascii ",\"values\":[" ++ l ++ ascii "]") (append-nil (decimal_of (get_or numbers at.first_value 0)) ∙ ap decimal_of one))
      (words_say ",\"values\":["
      then row-says (least at.value_count 1) (ap (leb 1) count) (ascii "") (number at.first_value)
      then row_silent (least at.value_count 2) (ap (leb 2) count) (ascii ",") (number at.second_value)
      then words_say "]")
  values_say (v ∷ w ∷ []) h count one two =
      said (ap (λ (x : ℕ). ascii ",\"values\":[" ++ (decimal_of x ++ (ascii "," ++ decimal_of (get_or numbers at.second_value 0))) ++ ascii "]") one
      ∙ ap (λ (x : ℕ). ascii ",\"values\":[" ++ (decimal_of v ++ (ascii "," ++ decimal_of x)) ++ ascii "]") two)
      (words_say ",\"values\":["
      then row-says (least at.value_count 1) (ap (leb 1) count) (ascii "") (number at.first_value)
      then row-says (least at.value_count 2) (ap (leb 2) count) (ascii ",") (number at.second_value)
      then words_say "]")
  values_say (v ∷ w ∷ x ∷ values) h count one two = absurd (omega arith)

-- ---- what depends on the number alone
-- the reason: nothing is said of a number beyond 13
abbrev reason_by : ℕ → List ℕ
reason_by n = reason_of n false

reasons-told : Tells at.code 14 (face.words_from at.code 1 reasons) reason_by
unfolding printed_from
reasons-told = tt

-- a test that holds or not
module _ {numbers texts : List ℕ} where
  when-says : (t : Test) {rows : List Row} {s : List ℕ} → (holds numbers t ≡ true → Says numbers texts rows s)
      → (holds numbers t ≡ false → Says numbers texts rows []) → Says numbers texts rows (pick (holds numbers t) s [])
  when-says t {rows} {s} p q = go (holds numbers t) refl
    where
      go : (b : Bool) → holds numbers t ≡ b → Says numbers texts rows (pick b s [])
      go true e = p e
      go false e = q e

-- ---- the object
module _ (line n : ℕ) (values : List ℕ) (few : length values ≤ 2) (small : min n 14 ≡ n) (about : About) where
  abbrev numbers : List ℕ
  numbers = refused_numbers line n values about

  abbrev Rows : List Row → List ℕ → Type 0
  Rows rows s = Says numbers (take 100 about.text) rows s

  sums_say : Rows checksum_table (sum_members n values)
  sums_say =
      when-says (is at.code 3)
      (λ e. row-says (is at.code 3) e (ascii ",\"checksum\":\"") (pair at.first_value)
      then row-says (is at.code 3) e (ascii "\",\"computed\":\"") (pair at.second_value)
      then row-says (is at.code 3) e (ascii "\"") nothing)
      (λ e. row_silent (is at.code 3) e (ascii ",\"checksum\":\"") (pair at.first_value)
      then row_silent (is at.code 3) e (ascii "\",\"computed\":\"") (pair at.second_value)
      then row_silent (is at.code 3) e (ascii "\"") nothing)

  sender-says : (o : Option ℕ) → get_or numbers at.sender_there 0 ≡ there_of o → get_or numbers at.sender 0 ≡ value_of o
      → Rows (face.member_if (is at.sender_there 1) "mmsi" (number at.sender)) (sender_member o)
  sender-says None e f = row_silent (is at.sender_there 1) (ap (λ (k : ℕ). eqb k 1) e) (face.key "mmsi") (number at.sender)
  sender-says (Some mmsi) e f = member_if_says "mmsi" (is at.sender_there 1) (number at.sender) (ap (λ (k : ℕ). eqb k 1) e) (ap decimal_of f)

  type-says : Rows type_table (type_members n values about.sender)
  type-says =
      when-says (is at.code 10)
      (λ e. member_if_says "type" (is at.code 10) (number at.first_value) e refl)
      (λ e. row_silent (is at.code 10) e (face.key "type") (number at.first_value))
      then sender-says about.sender refl refl

  reason_says : (other : Bool) → get_or numbers at.another_kind 0 ≡ flag_of other → Rows reason_table (reason_of n other)
  reason_says true f =
      said (append-nil _)
      (row-says (is at.another_kind 1) (ap (λ (k : ℕ). eqb k 1) f) (ascii "NMEA sentence of another kind") nothing
      then group_silent (is_not at.another_kind 1) (ap (λ (k : ℕ). not (eqb k 1)) f) (face.words_from at.code 1 reasons))
  reason_says false f =
      row_silent (is at.another_kind 1) (ap (λ (k : ℕ). eqb k 1) f) (ascii "NMEA sentence of another kind") nothing
      then group-says (is_not at.another_kind 1) (ap (λ (k : ℕ). not (eqb k 1)) f)
      (chosen_says at.code 14 (face.words_from at.code 1 reasons) reason_by reasons-told n refl (ap reason_by small))

  text-said : quoted_in (take (min 100 (length about.text)) (take 100 about.text)) ≡ quoted_in (take 100 about.text)
  text-said =
      let t = about.text in
      ap quoted_in (take-take (min 100 (length t)) 100 t (omega arith) ∙ take_min 100 t)

  cut-says : (cut : Bool) → get_or numbers at.the_text_cut 0 ≡ flag_of cut
      → Rows (face.words_if (is at.the_text_cut 1) ",\"text_cut\":true") (pick cut (member "text_cut" (ascii "true")) [])
  cut-says true f = row-says (is at.the_text_cut 1) (ap (λ (k : ℕ). eqb k 1) f) (ascii ",\"text_cut\":true") nothing
  cut-says false f = row_silent (is at.the_text_cut 1) (ap (λ (k : ℕ). eqb k 1) f) (ascii ",\"text_cut\":true") nothing

  refused_says : Rows refused_table (refused_object line n values about)
  unfolding refused_object
  refused_says =
      words_say "{\"class\":\"ERROR\""
      then member-says "line" (number at.line) refl
      then member-says "refusal" (number at.code) refl
      then values_say values few refl refl refl
      then sums_say
      then type-says
      then (words_say ",\"message\":\"" then reason_says about.other refl then words_say "\"")
      then (member-says "text" (quoted at.text_length at.text_start) text-said then cut-says about.cut refl)
      then words_say "}\n"

  refused-line : refused_line numbers (take 100 about.text) ≡ refused_object line n values about
  unfolding refused_line
  refused-line = whole refused_says

-- ---- of a refusal of the code
few-values : (r : Refusal) → length (row_of r).values ≤ 2
few-values Refusal.LineTooLong = omega arith
few-values Refusal.Line = omega arith
few-values (Refusal.Checksum expected found) = omega arith
few-values Refusal.MessageNumber = omega arith
few-values Refusal.FragmentNumber = omega arith
few-values Refusal.PayloadTooLong = omega arith
few-values Refusal.Fill = omega arith
few-values (Refusal.Armour offset) = omega arith
few-values Refusal.Short = omega arith
few-values (Refusal.OtherType n) = omega arith
few-values (Refusal.UnknownType n) = omega arith
few-values Refusal.Room = omega arith
few-values Refusal.Request = omega arith

pub numbered : (r : Refusal) → (1 ≤ (row_of r).number) × ((row_of r).number ≤ 13)
numbered Refusal.LineTooLong = (omega arith, omega arith)
numbered Refusal.Line = (omega arith, omega arith)
numbered (Refusal.Checksum expected found) = (omega arith, omega arith)
numbered Refusal.MessageNumber = (omega arith, omega arith)
numbered Refusal.FragmentNumber = (omega arith, omega arith)
numbered Refusal.PayloadTooLong = (omega arith, omega arith)
numbered Refusal.Fill = (omega arith, omega arith)
numbered (Refusal.Armour offset) = (omega arith, omega arith)
numbered Refusal.Short = (omega arith, omega arith)
numbered (Refusal.OtherType n) = (omega arith, omega arith)
numbered (Refusal.UnknownType n) = (omega arith, omega arith)
numbered Refusal.Room = (omega arith, omega arith)
numbered Refusal.Request = (omega arith, omega arith)

small-number : (r : Refusal) → min (row_of r).number 14 ≡ (row_of r).number
small-number r = let n = numbered r in omega (arith, n.1)

pub refusal_said : (line : ℕ) (r : Refusal) (about : About)
    → refused_line (refused_numbers line (row_of r).number (row_of r).values about) (take 100 about.text)
    ≡ refused_object line (row_of r).number (row_of r).values about
refusal_said line r about = refused-line line (row_of r).number (row_of r).values (few-values r) (small-number r) about

-- ---- in the code: the numbers of a refused line, put into zeros in two runs, and its table
numbers-put : (line n : ℕ) (values : List ℕ) (about : About) {p q : ℕ} {one all : List ℕ}
    → text q one ≡ put (text 0 (replicate 59 0)) (get_or values 0 0 ∷ get_or values 1 0 ∷ [])
    → text p all ≡ put (text 50 one) (drop 50 (refused_numbers line n values about)) → all ≡ refused_numbers line n values about
unfolding put put1
numbers-put line n values about {p} {q} {one} {all} e f =
    ap (λ (t : Text). t.bytes) f ∙ ap (λ (t : Text). (put (text 50 t.bytes) (drop 50 (refused_numbers line n values about))).bytes) e

pub refused-put : (line : ℕ) (about : About) (before : Text) {code first second count shown cut there sent other p q : ℕ} {one all : List ℕ} {after : Text}
    → count ≡ count_by code → shown ≡ min 100 (length about.text) → cut ≡ flag_of about.cut
    → there ≡ there_of about.sender → sent ≡ value_of about.sender → other ≡ flag_of about.other
    → text q one ≡ put (text 0 (replicate 59 0)) (first ∷ second ∷ [])
    → text p all ≡ put (text 50 one) (line ∷ 0 ∷ code ∷ count ∷ shown ∷ cut ∷ there ∷ sent ∷ other ∷ [])
    → after ≡ put before (refused_line all (take shown about.text))
    → (r : Refusal) → code ≡ (row_of r).number → first ≡ get_or (row_of r).values 0 0 → second ≡ get_or (row_of r).values 1 0
    → after ≡ put before (refused_object line (row_of r).number (row_of r).values about)
refused-put line about before {code} {first} {second} {count} {shown} {cut} {there} {sent} {other} {p} {q} {one} {all} {after} is-count is-shown is_cut is_there is_sent is-other e f g r is_code
    is-first is-second =
    let values = (row_of r).values in
    let t = about.text in
    let n : count ≡ length values = is-count ∙ ap count_by is_code ∙ counted r in
    let laid : all ≡ refused_numbers line (row_of r).number values about =
    numbers-put line (row_of r).number values about (rw (is-first, is-second) at e) (rw (n, is_code, is-shown, is_cut, is_there, is_sent, is-other) at f) in
    g ∙ ap (λ (l : List ℕ). put before (refused_line l (take shown t))) laid
    ∙ ap (λ (s : List ℕ). put before (refused_line (refused_numbers line (row_of r).number values about) s)) (ap (λ (i : ℕ). take i t) is-shown ∙ take_min 100 t)
    ∙ ap (put before) (refusal_said line r about)
