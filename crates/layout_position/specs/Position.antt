-- The thirty-four numbers of a position report, types 1 to 3. What does not apply is 0.
use Rattle.std.specs.Prelude.{ℕ, ◌-◌, ◌^◌, Bool, List, [], ◌∷◌, ◌++◌, ℤ, pos, negsuc, Float, Option, None, Some}
use Rattle.std.specs.Float.{binary32}
use Rattle.std.specs.Float.Ieee.{is_nan, to_bits}
use Rattle.refusal.specs.Words.{pick}
use Rattle.navigation.specs.Navigation.{accuracy_number, manoeuvre_number}
use Rattle.navigation.specs.declared.RateOfTurn.{RateOfTurn}
use Rattle.navigation.specs.declared.Direction.{Direction}
use Rattle.radio_status.specs.Radio.{sync_number}
use Rattle.radio_status.specs.declared.SubMessage.{SubMessage}
use Rattle.radio_status.specs.declared.RadioStatus.{RadioStatus}
use Rattle.position_report.specs.Report.{status_number}
use Rattle.position_report.specs.declared.PositionReport.{PositionReport}
use Rattle.layout_numbers.specs.Optional.{there_of, value_of}

-- a signed number: one below 0 with 2 ^ 64 added, as two's complement has it
abbrev pub word_of : ℤ → ℕ
word_of (pos n) = n
word_of (negsuc n) = 2 ^ 64 - 1 - n

-- a float: its bit pattern. A NaN has none of its own, and stands as 2143289344 (7FC00000 in hex); no decoded report holds one
abbrev pub pattern_of : Float → ℕ
pattern_of x = pick (is_nan x) 2143289344 (to_bits binary32 x)

-- a flag: 1 or 0
abbrev pub flag_of : Bool → ℕ
flag_of b = pick b 1 0

-- a speed, a course, a position or a rate: "absent or a single-precision value" (document 01, 'Fields and types')
abbrev pub reading_in : Option Float → Option ℕ
reading_in None = None
reading_in (Some x) = Some (pattern_of x)

-- the turn as it was sent, or absent
abbrev pub turn_in : Option RateOfTurn → Option ℕ
turn_in None = None
turn_in (Some turn) = Some (word_of turn.raw)

-- "direction is port below 0, starboard above, none at 0": 1, 2 and 0
abbrev pub direction_number : Option Direction → ℕ
direction_number None = 0
direction_number (Some Direction.Port) = 1
direction_number (Some Direction.Starboard) = 2

-- kind 1, the sender, and how the ship moves
abbrev pub movement_numbers : PositionReport → List ℕ
movement_numbers p =
    1
    ∷ p.message_type
    ∷ p.repeat_indicator
    ∷ p.mmsi
    ∷ status_number p.navigation_status
    ∷ there_of (turn_in p.rate_of_turn)
    ∷ value_of (turn_in p.rate_of_turn)
    ∷ there_of (reading_in p.rate)
    ∷ value_of (reading_in p.rate)
    ∷ direction_number p.direction
    ∷ there_of (reading_in p.speed_over_ground)
    ∷ value_of (reading_in p.speed_over_ground)
    ∷ p.speed_raw
    ∷ accuracy_number p.position_accuracy
    ∷ []

-- where it is, and which way
abbrev pub positioned_numbers : PositionReport → List ℕ
positioned_numbers p =
    there_of (reading_in p.longitude)
    ∷ value_of (reading_in p.longitude)
    ∷ word_of p.longitude_raw
    ∷ there_of (reading_in p.latitude)
    ∷ value_of (reading_in p.latitude)
    ∷ word_of p.latitude_raw
    ∷ there_of (reading_in p.course_over_ground)
    ∷ value_of (reading_in p.course_over_ground)
    ∷ p.course_raw
    ∷ there_of p.true_heading
    ∷ value_of p.true_heading
    ∷ p.timestamp
    ∷ manoeuvre_number p.maneuver_indicator
    ∷ flag_of p.raim
    ∷ []

-- which of the four the 14 bits of SOTDMA are, and what they tell
abbrev pub sub_numbers : SubMessage → List ℕ
sub_numbers (SubMessage.SlotOffset n) = 1 ∷ n ∷ 0 ∷ []
sub_numbers (SubMessage.UtcHourAndMinute hour minute) = 2 ∷ hour ∷ minute ∷ []
sub_numbers (SubMessage.SlotNumber n) = 3 ∷ n ∷ 0 ∷ []
sub_numbers (SubMessage.ReceivedStations n) = 4 ∷ n ∷ 0 ∷ []

-- 1 is SOTDMA and 2 is ITDMA
abbrev pub radio_numbers : RadioStatus → List ℕ
radio_numbers (RadioStatus.Sotdma m) = 1 ∷ sync_number m.sync_state ∷ m.slot_timeout ∷ sub_numbers m.sub_message
radio_numbers (RadioStatus.Itdma m) = 2 ∷ sync_number m.sync_state ∷ m.slot_increment ∷ m.num_slots ∷ flag_of m.keep ∷ 0 ∷ []

-- all thirty-four
abbrev pub position_numbers : PositionReport → List ℕ
position_numbers p = movement_numbers p ++ (positioned_numbers p ++ radio_numbers p.radio_status)
