-- A field as a row shows it, from the numbers that it is laid out as, is what the definitions say of the field. Assumes nothing.
use Rattle.std.specs.Prelude.{Option, None, Some, Float}
use Prim.Native.Nat.{ℕ, ◌+◌, ◌-◌, ◌%◌, ◌^◌, ◌≤◌, ◌<◌}
use native.Mathlib.Omega.{arith}
use native.Mathlib.Nat.{mod-eq_of_lt}
use mathlib.Core.Path.{◌≡◌, refl, sym, ap, ◌∙◌}
use mathlib.Core.Bool.{Bool, true, false}
use mathlib.Core.List.{List, [], ◌∷◌}
use lib.Dec.{eqb, leb}
use lib.IntN.{ℤ, pos, negsuc}
use lib.Signed.{mag}
use lib.ListN.{get_or, take, drop}
use lib.Seq.{take-take}
use borrow.Author.Tests.{lt-ltb, le-ltb, ne_eqb}
use Rattle.std.specs.Prelude.{Option, Some, None}
use Rattle.refusal.specs.Words.{pick}
use Rattle.text_out.specs.Text.{ascii}
use Rattle.text_out.specs.Digits.{decimal_of}
use Rattle.parsers.specs.declared.Text.{Text}
use Rattle.navigation.specs.Navigation.{accuracy_number, manoeuvre_number}
use Rattle.navigation.specs.declared.Accuracy.{Accuracy}
use Rattle.navigation.specs.declared.RateOfTurn.{RateOfTurn}
use Rattle.navigation.specs.declared.ManeuverIndicator.{ManeuverIndicator}
use Rattle.interrogation.specs.Interrogation.{no_message, no_station}
use Rattle.interrogation.specs.declared.Message.{Message}
use Rattle.interrogation.specs.declared.Station.{Station}
use Rattle.layout_numbers.specs.Optional.{there_of, value_of}
use Rattle.layout_position.specs.Position.{word_of, flag_of, reading_in, turn_in}
use Rattle.face_values.specs.Signed.{signed_in}
use Rattle.face_values.specs.Point.{degrees_in}
use Rattle.face_values.specs.Rate.{rate_in}
use Rattle.face_values.specs.Quoted.{quoted_in}
use Rattle.json_told.specs.Object.{null, truth, integer, degrees_text, reading_text, turn_text, heading_text, manoeuvre_text, is_dgps, offset_text, spelled}
use Rattle.json_told.specs.Object.{rate_text, channel_text}
use Rattle.json_told.specs.Object.{asked_of, tell_at}
use Rattle.json_told.proofs.Sound.{TurnSound, ManoeuvreSound, Few, no_one, only, two}

-- ---- signed numbers, which stand as words of 64 bits
back : (n : ℕ) → n < 2 ^ 63 → 2 ^ 64 - (2 ^ 64 - 1 - n) ≡ n + 1
back n h = omega arith

pub signed-said : (z : ℤ) → mag z + 1 < 2 ^ 32 → signed_in (word_of z) ≡ integer z
signed-said (pos n) h = rw (lt-ltb n (2 ^ 63) (omega arith))
signed-said (negsuc n) h = rw (le-ltb (2 ^ 64 - 1 - n) (2 ^ 63) (omega arith), back n (omega arith))

-- no position has more than 32 bits
pub degrees-said : (z : ℤ) → mag z + 1 < 2 ^ 32 → degrees_in (word_of z) ≡ degrees_text z
degrees-said (pos n) h = rw (lt-ltb n (2 ^ 63) (omega arith), mod-eq_of_lt {n = n} {m = 2 ^ 32} (omega arith))
degrees-said (negsuc n) h =
    rw (le-ltb (2 ^ 64 - 1 - n) (2 ^ 63) (omega arith), back n (omega arith), mod-eq_of_lt {n = n + 1} {m = 2 ^ 32} (omega arith))

-- ---- what may be absent
pub reading_said : (r : Option Float) {s t : List ℕ} → s ≡ t → pick (eqb (there_of (reading_in r)) 1) s null ≡ reading_text r t
reading_said None e = refl
reading_said (Some x) e = e

pub rate-said : (r : Option Float) → pick (eqb (there_of (reading_in r)) 1) (rate_in (value_of (reading_in r))) null ≡ rate_text r
rate-said None = refl
rate-said (Some x) = refl

pub channel-said : (c : Option ℕ) → pick (eqb (there_of c) 1) (quoted_in (value_of c % 256 ∷ [])) null ≡ channel_text c
channel-said None = refl
channel-said (Some c) = refl

pub turn-said : (t : Option RateOfTurn) → TurnSound t → pick (eqb (there_of (turn_in t)) 1) (signed_in (value_of (turn_in t))) null ≡ turn_text t
turn-said None h = refl
turn-said (Some turn) h = signed-said turn.raw h

pub heading-said : (h : Option ℕ) → pick (eqb (there_of h) 1) (decimal_of (value_of h)) null ≡ heading_text h
heading-said None = refl
heading-said (Some degrees) = refl

pub offset-said : (o : Option ℕ) → pick (eqb (there_of o) 1) (decimal_of (value_of o)) null ≡ offset_text o
offset-said None = refl
offset-said (Some slots) = refl

pub manoeuvre-said : (m : Option ManeuverIndicator) → ManoeuvreSound m
    → pick (eqb (manoeuvre_number m) 0) null (decimal_of (manoeuvre_number m)) ≡ manoeuvre_text m
manoeuvre-said None h = refl
manoeuvre-said (Some ManeuverIndicator.NoSpecialManeuver) h = refl
manoeuvre-said (Some ManeuverIndicator.SpecialManeuver) h = refl
manoeuvre-said (Some (ManeuverIndicator.Unknown n)) h = rw (ne_eqb n 0 h)

-- ---- flags
pub dgps_said : (a : Accuracy) → pick (eqb (accuracy_number a) 1) (ascii "true") (ascii "false") ≡ truth (is_dgps a)
dgps_said Accuracy.Unaugmented = refl
dgps_said Accuracy.Dgps = refl

pub flag-said : (b : Bool) → pick (eqb (flag_of b) 1) (ascii "true") (ascii "false") ≡ truth b
flag-said true = refl
flag-said false = refl

-- ---- texts
-- the twenty bytes of a text from a place on, of which it has at most all
pub text-said : (t : Text) (bytes : List ℕ) (start : ℕ) → take 20 (drop start bytes) ≡ t.bytes → t.len ≤ 20
    → quoted_in (take t.len (drop start bytes)) ≡ spelled t
text-said t bytes start e h = ap quoted_in (sym (take-take t.len 20 (drop start bytes) h) ∙ ap (take t.len) e)

-- ---- lists of at most two
abbrev pub mmsi_told : Station → List ℕ
mmsi_told s = decimal_of s.mmsi

abbrev pub type_told : Message → List ℕ
type_told m = decimal_of m.message_type

abbrev pub offset_told : Message → List ℕ
offset_told m = offset_text m.slot_offset

-- what a row tells that goes by the count
module _ {A : Type 0} {none : A} (tell : A → List ℕ) where
  pub first_said : {l : List A} {n : ℕ} → Few none l n → pick (leb 1 n) (tell (get_or l 0 none)) null ≡ tell_at tell (take n l) 0
  first_said no_one = refl
  first_said (only x) = refl
  first_said (two x y) = refl

  pub second-said : {l : List A} {n : ℕ} → Few none l n → pick (leb 2 n) (tell (get_or l 1 none)) null ≡ tell_at tell (take n l) 1
  second-said no_one = refl
  second-said (only x) = refl
  second-said (two x y) = refl

-- an offset goes by itself: an unused place has none
abbrev offset_is : Message → List ℕ
offset_is m = pick (eqb (there_of m.slot_offset) 1) (decimal_of (value_of m.slot_offset)) null

pub first-offset : {l : List Message} {n : ℕ} → Few no_message l n → offset_is (get_or l 0 no_message) ≡ tell_at offset_told (take n l) 0
first-offset no_one = refl
first-offset (only x) = offset-said x.slot_offset
first-offset (two x y) = offset-said x.slot_offset

pub second-offset : {l : List Message} {n : ℕ} → Few no_message l n → offset_is (get_or l 1 no_message) ≡ tell_at offset_told (take n l) 1
second-offset no_one = refl
second-offset (only x) = refl
second-offset (two x y) = offset-said y.slot_offset

-- the messages of each station
pub of-first : {l : List Station} {n : ℕ} → Few no_station l n → take (get_or l 0 no_station).count (get_or l 0 no_station).messages ≡ asked_of (take n l) 0
of-first no_one = refl
of-first (only x) = refl
of-first (two x y) = refl

pub of-second : {l : List Station} {n : ℕ} → Few no_station l n → take (get_or l 1 no_station).count (get_or l 1 no_station).messages ≡ asked_of (take n l) 1
of-second no_one = refl
of-second (only x) = refl
of-second (two x y) = refl
