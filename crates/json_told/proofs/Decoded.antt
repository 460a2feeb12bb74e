-- Every message that is decoded holds what the tables need, whatever its bytes: the numbers fit, an unknown part is neither 0 nor 1, a text has at most
-- twenty characters, and a list at most two. Assumes nothing.
use Rattle.std.specs.Prelude.{None, Some}
use Prim.Native.Nat.{ℕ, ◌+◌, ◌/◌, ◌^◌, ◌≤◌, ◌<◌}
use native.Mathlib.Omega.{arith}
use mathlib.Core.Path.{◌≡◌, refl}
use mathlib.Core.Bool.{Bool, true, false, ◌&&◌}
use mathlib.Core.List.{List, [], ◌∷◌}
use lib.Dec.{eqb}
use lib.IntN.{ℤ, pos, neg_ℤ}
use lib.ListN.{length, drop, replicate, length-append, length-drop, length-replicate}
use lib.Signed.{mag}
use borrow.Author.Tests.{eqb-false}
use Rattle.refusal.specs.Words.{pick, within}
use Rattle.parsers.specs.Field.{field_of, signed_of}
use Rattle.parsers.specs.Text.{text_of, text_in}
use Rattle.parsers.specs.Table.{number_at}
use Rattle.parsers.proofs.Fields.{signed_half}
use Rattle.navigation.specs.Navigation.{eq_int, turn_of, manoeuvre_of}
use Rattle.navigation.specs.declared.ManeuverIndicator.{ManeuverIndicator}
use Rattle.position_report.specs.Table.{position_table}
use Rattle.position_report.specs.Report.{report_with, report_of}
use Rattle.static_data_report.specs.Table as static
use Rattle.std.specs.Prelude.{Result, Ok, Err}
use Rattle.refusal.specs.declared.Refusal.{Refusal}
use Rattle.static_data_report.specs.StaticData.{too_short, no_text, no_texts, name_of, part_b_texts_of, report_of as static_of, read_by as read_static, static_data_of, texts_in}
use Rattle.static_data_report.specs.Sound.{ReportSound}
use Rattle.static_data_report.specs.declared.StaticData.{StaticData}
use Rattle.static_data_report.proofs.Lengths.{text-length}
use Rattle.static_data_report.proofs.Sound.{sound}
use Rattle.interrogation.specs.Table.{table, from, end}
use Rattle.interrogation.specs.Interrogation.{no_message, padded, dropped, remains, message_at, first_at, the_second_at, another, messages_at, station_at, station_end}
use Rattle.interrogation.specs.Interrogation.{the_head_in, station_in, tells_of, read_by, interrogated_of}
use Rattle.interrogation.specs.declared.Message.{Message}
use Rattle.interrogation.specs.declared.Interrogation.{Interrogation}
use Rattle.messages.specs.Messages.{no_message as nothing, ends_position, the_position_in, static_in, the_asked_in, message_by}
use Rattle.json_told.proofs.Sound.{TurnSound, ManoeuvreSound, PositionSound, TextSound, TextsSound, Few, no_one, only, two, StationSound, Sound}

-- what holds of both holds of the one that is picked
pub on-pick : {A : Type 0} (P : A → Type 0) (b : Bool) {x y : A} → P x → P y → P (pick b x y)
on-pick P true p q = p
on-pick P false p q = q

-- ---- types 1 to 3
turn_sound : (raw : ℤ) → mag raw + 1 < 2 ^ 32 → TurnSound (turn_of raw)
turn_sound raw h = on-pick TurnSound (eq_int raw (neg_ℤ (pos 128))) tt h

manoeuvre_sound : (raw : ℕ) → ManoeuvreSound (manoeuvre_of raw)
manoeuvre_sound raw = go (eqb raw 0) refl
  where
    go : (b : Bool) → eqb raw 0 ≡ b
        → ManoeuvreSound (pick b None
        (pick (eqb raw 1) (Some ManeuverIndicator.NoSpecialManeuver) (pick (eqb raw 2) (Some ManeuverIndicator.SpecialManeuver) (Some (ManeuverIndicator.Unknown raw)))))
    go true e = tt
    go false e = on-pick ManoeuvreSound (eqb raw 1) tt (on-pick ManoeuvreSound (eqb raw 2) tt (eqb-false raw 0 e))

position_sound : (d : List ℕ) → PositionSound (report_of position_table d)
unfolding report_with report_of
position_sound d = record {
  turn = turn_sound (signed_of d 42 8) (omega (arith, signed_half d 42 8));
  longitude = omega (arith, signed_half d 61 28);
  latitude = omega (arith, signed_half d 89 27);
  manoeuvre = manoeuvre_sound (field_of d 143 2);
}

position_in : (d : List ℕ) → Sound (pick (ends_position d) nothing (the_position_in (report_of position_table d)))
position_in d = on-pick Sound (ends_position d) tt (position_sound d)

-- ---- type 24
text_sound : (d : List ℕ) (at size : ℕ) → size / 6 ≤ 20 → TextSound (text_of d at size)
unfolding text_of
text_sound d at size h =
    let s = text_in d at size in
    let k : length s ≤ size / 6 = text-length d at size in
    let none : List ℕ = replicate 20 0 in
    record {
      bytes = omega (arith, length-append s (drop (length s) none), length-drop (length s) none, length-replicate {A = ℕ} 20 0);
      len = omega arith;
    }

none_sound : TextSound no_text
none_sound = record { bytes = refl; len = omega arith }

no_texts_sound : TextsSound no_texts
no_texts_sound = record { name = none_sound; vendor = none_sound; model = none_sound; callsign = none_sound }

texts_sound : (d : List ℕ) → TextsSound (texts_in (static_data_of d))
unfolding static_data_of read_static static_of name_of part_b_texts_of
texts_sound d =
    let n = number_at d (static.table).part in
    let name : TextsSound (name_of static.table d) =
    record { name = text_sound d 40 120 (omega arith); vendor = none_sound; model = none_sound; callsign = none_sound } in
    let craft : TextsSound (part_b_texts_of static.table d) = record {
      name = none_sound;
      vendor = text_sound d 48 18 (omega arith);
      model = text_sound d 66 24 (omega arith);
      callsign = text_sound d 90 42 (omega arith);
    } in
    on-pick (λ (a : Result StaticData Refusal). TextsSound (texts_in a)) (too_short static.table d) no_texts_sound
    (on-pick TextsSound (eqb n 0) name (on-pick TextsSound (eqb n 1) craft no_texts_sound))

static_in_lem : (a : Result StaticData Refusal) → ReportSound a → TextsSound (texts_in a) → Sound (static_in a)
static_in_lem (Ok a) p t = (p, t)
static_in_lem (Err r) p t = tt

-- ---- type 15
module _ (d : List ℕ) where
  station_sound : (at : ℕ) → StationSound (station_at table d at)
  unfolding station_at messages_at
  station_sound at =
      let one = message_at table d (first_at table d at) in
      let other = message_at table d (the_second_at table d at) in
      on-pick (λ (rest : List Message). Few no_message (padded no_message (one ∷ rest)) (length (one ∷ rest))) (another table d at)
      (on-pick (λ (rest : List Message). Few no_message (padded no_message (one ∷ rest)) (length (one ∷ rest))) (dropped other) (only one) (two one other))
      (only one)

  abbrev AskedIn : Result Interrogation Refusal → Type 0
  AskedIn a = Sound (the_asked_in a)

  asked_in : AskedIn (interrogated_of d)
  unfolding read_by
  asked_in =
      let t = table in
      let a = end t.spare in
      let b = station_end t d a in
      let one : AskedIn (tells_of t d (station_at t d a ∷ [])) = record { stations = only (station_at t d a); first = station_sound a; second = no_one } in
      let both : AskedIn (tells_of t d (station_at t d a ∷ station_at t d b ∷ [])) =
      record { stations = two (station_at t d a) (station_at t d b); first = station_sound a; second = station_sound b } in
      on-pick AskedIn (the_head_in t d && station_in t d a)
      (on-pick AskedIn (remains d (from b t.station)) (on-pick AskedIn (station_in t d b && remains d (from (station_end t d b) t.closing)) both tt) one)
      tt

-- ---- any type
pub decoded_sound : (k : ℕ) (d : List ℕ) → Sound (message_by k d)
unfolding message_by
decoded_sound k d =
    on-pick Sound (within 1 3 k) (position_in d)
    (on-pick Sound (eqb k 15) (asked_in d)
    (on-pick Sound (eqb k 24) (static_in_lem (static_data_of d) (sound d).part (texts_sound d)) tt))
