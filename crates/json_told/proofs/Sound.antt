-- What the fields of a decoded message hold, so far as the tables of face_json rest on it; proofs/Decoded has that every decoded message does.
use Rattle.std.specs.Prelude.{Option, None, Some}
use Prim.Native.Nat.{ℕ, ◌+◌, ◌^◌, ◌≤◌, ◌<◌}
use mathlib.Core.Path.{◌≡◌}
use mathlib.Core.List.{List, [], ◌∷◌}
use lib.ListN.{length, get_or}
use lib.Signed.{mag}
use Rattle.parsers.specs.declared.Text.{Text}
use Rattle.navigation.specs.declared.RateOfTurn.{RateOfTurn}
use Rattle.navigation.specs.declared.ManeuverIndicator.{ManeuverIndicator}
use Rattle.position_report.specs.declared.PositionReport.{PositionReport}
use Rattle.static_data_report.specs.Sound.{PartSound}
use Rattle.static_data_report.specs.declared.Texts.{Texts}
use Rattle.interrogation.specs.Interrogation.{no_message, no_station}
use Rattle.interrogation.specs.declared.Station.{Station}
use Rattle.interrogation.specs.declared.Interrogation.{Interrogation}
use Rattle.messages.specs.declared.AisMessage.{AisMessage}
use Rattle.messages.specs.declared.Message.{Message}

-- ---- types 1 to 3: signed numbers fit in 32 bits, and 0 is no unknown manoeuvre
abbrev pub TurnSound : Option RateOfTurn → Type 0
TurnSound None = Unit {0}
TurnSound (Some turn) = mag turn.raw + 1 < 2 ^ 32

abbrev pub ManoeuvreSound : Option ManeuverIndicator → Type 0
ManoeuvreSound None = Unit {0}
ManoeuvreSound (Some ManeuverIndicator.NoSpecialManeuver) = Unit {0}
ManoeuvreSound (Some ManeuverIndicator.SpecialManeuver) = Unit {0}
ManoeuvreSound (Some (ManeuverIndicator.Unknown n)) = n ≡ 0 → ⊥

pub record PositionSound (p : PositionReport) : Type 0 where
  pub turn : TurnSound p.rate_of_turn
  pub longitude : mag p.longitude_raw + 1 < 2 ^ 32
  pub latitude : mag p.latitude_raw + 1 < 2 ^ 32
  pub manoeuvre : ManoeuvreSound p.maneuver_indicator

-- ---- type 24: a text has twenty places, and at most as many characters
pub record TextSound (t : Text) : Type 0 where
  pub bytes : length t.bytes ≡ 20
  pub len : t.len ≤ 20

pub record TextsSound (t : Texts) : Type 0 where
  pub name : TextSound t.vessel_name
  pub vendor : TextSound t.vendor_id
  pub model : TextSound t.model_serial
  pub callsign : TextSound t.callsign

-- ---- type 15: a list of at most two, in two places, where `none` is what an unused place holds
pub data Few {A : Type 0} (none : A) : List A → ℕ → Type 0 where
  no_one : Few none (none ∷ none ∷ []) 0
  only : (x : A) → Few none (x ∷ none ∷ []) 1
  two : (x y : A) → Few none (x ∷ y ∷ []) 2

abbrev pub StationSound : Station → Type 0
StationSound s = Few no_message s.messages s.count

pub record AskedSound (i : Interrogation) : Type 0 where
  pub stations : Few no_station i.stations i.count
  pub first : StationSound (get_or i.stations 0 no_station)
  pub second : StationSound (get_or i.stations 1 no_station)

-- ---- a message of any type
abbrev pub ContentSound : AisMessage → Texts → Interrogation → Type 0
ContentSound AisMessage.Nothing texts asked = Unit {0}
ContentSound (AisMessage.PositionReport p) texts asked = PositionSound p
ContentSound (AisMessage.StaticDataReport r) texts asked = PartSound r.message_part × TextsSound texts
ContentSound AisMessage.Interrogation texts asked = AskedSound asked

abbrev pub Sound : Message → Type 0
Sound m = ContentSound m.content m.texts m.interrogation
