-- The thirty-four numbers of a static data report, type 24, and the bytes of its texts. What does not apply is 0.
use Rattle.std.specs.Prelude.{ℕ, List, [], ◌∷◌, ◌++◌, replicate}
use Rattle.static_data_report.specs.declared.MessagePart.{MessagePart}
use Rattle.static_data_report.specs.declared.StaticDataReport.{StaticDataReport}
use Rattle.static_data_report.specs.declared.Texts.{Texts}

-- the part (a decoded report's unknown ones are 2 and 3), and part B's numbers
abbrev pub part_numbers : MessagePart → List ℕ
part_numbers MessagePart.PartA = replicate 8 0
part_numbers (MessagePart.PartB b) =
    1
    ∷ b.ship_type
    ∷ b.unit_model_code
    ∷ b.serial_number
    ∷ b.dimension_to_bow
    ∷ b.dimension_to_stern
    ∷ b.dimension_to_port
    ∷ b.dimension_to_starboard
    ∷ []
part_numbers (MessagePart.Unknown n) = n ∷ replicate 7 0

-- the lengths of the texts
abbrev pub length_numbers : Texts → List ℕ
length_numbers t = t.vessel_name.len ∷ t.vendor_id.len ∷ t.model_serial.len ∷ t.callsign.len ∷ []

-- kind 2, the sender, the part, the lengths of the texts
abbrev pub static_numbers : StaticDataReport → Texts → List ℕ
static_numbers s t =
    (2 ∷ s.message_type ∷ s.repeat_indicator ∷ s.mmsi ∷ [])
    ++ (part_numbers s.message_part ++ (length_numbers t ++ replicate 18 0))

-- the four texts, twenty bytes for each
abbrev pub text_bytes : Texts → List ℕ
text_bytes t = t.vessel_name.bytes ++ (t.vendor_id.bytes ++ (t.model_serial.bytes ++ t.callsign.bytes))
