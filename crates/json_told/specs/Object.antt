-- A line of JSON, from the fields of the message that it tells: gpsd's names, in the order of the AIVDM description's tables. What stands in quotes is
-- document 01's text, where nothing else is named.
use Rattle.std.specs.Prelude.{ℕ, zero, suc, ◌+◌, ◌*◌, ◌/◌, ◌%◌, Bool, true, false, List, [], ◌∷◌, ◌++◌, eqb, ltb, ℤ, pos, negsuc, get_or, take, Float, Option, None, Some}
use Prim.Native.String.{String}
use Rattle.refusal.specs.Words.{pick}
use Rattle.sentence.specs.declared.TalkerId.{TalkerId}
use Rattle.sentence.specs.declared.AisReportType.{AisReportType}
use Rattle.parsers.specs.Table.{number_at}
use Rattle.parsers.specs.declared.Text as sixbit
use Rattle.navigation.specs.declared.Accuracy.{Accuracy}
use Rattle.navigation.specs.declared.RateOfTurn.{RateOfTurn}
use Rattle.navigation.specs.declared.ManeuverIndicator.{ManeuverIndicator}
use Rattle.position_report.specs.Table.{position_table}
use Rattle.position_report.specs.Report.{status_number}
use Rattle.position_report.specs.declared.NavigationStatus.{NavigationStatus}
use Rattle.position_report.specs.declared.PositionReport.{PositionReport}
use Rattle.static_data_report.specs.declared.PartB.{PartB}
use Rattle.static_data_report.specs.declared.MessagePart.{MessagePart}
use Rattle.static_data_report.specs.declared.StaticDataReport.{StaticDataReport}
use Rattle.static_data_report.specs.declared.Texts.{Texts}
use Rattle.interrogation.specs.declared.Message as asked
use Rattle.interrogation.specs.declared.Station.{Station}
use Rattle.interrogation.specs.declared.Interrogation.{Interrogation}
use Rattle.messages.specs.declared.AisMessage.{AisMessage}
use Rattle.messages.specs.declared.Message.{Message}
use Rattle.answer.specs.declared.Sentence.{Sentence}
use Rattle.layout_position.specs.Position.{pattern_of}
use Rattle.text_out.specs.Text.{ascii}
use Rattle.text_out.specs.Digits.{decimal_of}
use Rattle.face_values.specs.Point.{tenths_in, fixed}
use Rattle.face_values.specs.Rate.{rate_in}
use Rattle.face_values.specs.Quoted.{quoted_in, pair_in}
use Rattle.face_rows.specs.Reasons.{reasons}
use Rattle.face_members.specs.Words.{statuses, ship_types, spelt}

-- a member after another, by RFC 8259: "A single colon comes after each name", and "A single comma separates a value from a following name"
abbrev pub member : String → List ℕ → List ℕ
member name value = ascii ",\"" ++ ascii name ++ ascii "\":" ++ value

-- what is absent
abbrev pub null : List ℕ
null = ascii "null"

-- ---- values
-- RFC 8259's two words for a flag
abbrev pub truth : Bool → List ℕ
truth b = pick b (ascii "true") (ascii "false")

-- words in quotes; none of ours holds a character that is escaped
abbrev pub in_quotes : List ℕ → List ℕ
in_quotes w = ascii "\"" ++ w ++ ascii "\""

-- a signed number: `negsuc n` is -1 - n, and a minus sign is 45
abbrev pub integer : ℤ → List ℕ
integer (pos n) = decimal_of n
integer (negsuc n) = 45 ∷ decimal_of (n + 1)

-- a count of 1/600000 degrees, or 5/3 millionths of a degree: the nearest whole count of those
abbrev pub nearest : ℕ → ℕ
nearest n = (n * 5 + 1) / 3

-- the degrees of such a count, with six digits after the point
abbrev pub degrees_text : ℤ → List ℕ
degrees_text (pos n) = fixed (nearest n)
degrees_text (negsuc n) = 45 ∷ fixed (nearest (n + 1))

-- "Speed and course are absent or a single-precision value": written from the number as sent
abbrev pub reading_text : Option Float → List ℕ → List ℕ
reading_text None sent = null
reading_text (Some x) sent = sent

-- "Absent: status 15": of the statuses the absent one alone has that number
abbrev pub the_status_text : Option NavigationStatus → List ℕ
the_status_text s = pick (eqb (status_number s) 15) null (decimal_of (status_number s))

-- the same in the AIVDM description's words
abbrev pub status_name : ℕ → List ℕ
status_name n = pick (ltb n 15) (in_quotes (get_or (spelt statuses) n [])) null

-- "Turn rate is .. absent at -127 and 127": degrees a minute, without a sign, that read back to the same single-precision value
abbrev pub rate_text : Option Float → List ℕ
rate_text None = null
rate_text (Some x) = rate_in (pattern_of x)

-- a ship type in the AIVDM description's words, which end at 99. "Decoders should treat these like value 0" it says of larger ones; we say nothing of them
abbrev pub ship_name : ℕ → List ℕ
ship_name n = pick (ltb n 100) (in_quotes (get_or ship_types n [])) null

-- "Absent: .. turn -128"; else the turn as it was sent
abbrev pub turn_text : Option RateOfTurn → List ℕ
turn_text None = null
turn_text (Some turn) = integer turn.raw

-- "Absent: .. heading 511"; else whole degrees
abbrev pub heading_text : Option ℕ → List ℕ
heading_text None = null
heading_text (Some degrees) = decimal_of degrees

-- "Absent: .. manoeuvre 0"; else the number as it was sent
abbrev pub manoeuvre_text : Option ManeuverIndicator → List ℕ
manoeuvre_text None = null
manoeuvre_text (Some ManeuverIndicator.NoSpecialManeuver) = decimal_of 1
manoeuvre_text (Some ManeuverIndicator.SpecialManeuver) = decimal_of 2
manoeuvre_text (Some (ManeuverIndicator.Unknown n)) = decimal_of n

-- 1 "indicates a DGPS-quality fix" (the AIVDM description)
abbrev pub is_dgps : Accuracy → Bool
is_dgps Accuracy.Unaugmented = false
is_dgps Accuracy.Dgps = true

-- "slot offset 12 .. (0 means absent, as when missing)"
abbrev pub offset_text : Option ℕ → List ℕ
offset_text None = null
offset_text (Some slots) = decimal_of slots

-- the characters of a text that are its own, in quotes
abbrev pub spelled : sixbit.Text → List ℕ
spelled t = quoted_in (take t.len t.bytes)

-- ---- the line that completed the message
-- its talker's two letters; "unknown ones kept as Unknown"
abbrev pub talker_text : TalkerId → List ℕ
talker_text TalkerId.AB = ascii "\"AB\""
talker_text TalkerId.AD = ascii "\"AD\""
talker_text TalkerId.AI = ascii "\"AI\""
talker_text TalkerId.AN = ascii "\"AN\""
talker_text TalkerId.AR = ascii "\"AR\""
talker_text TalkerId.AS = ascii "\"AS\""
talker_text TalkerId.AT = ascii "\"AT\""
talker_text TalkerId.AX = ascii "\"AX\""
talker_text TalkerId.BS = ascii "\"BS\""
talker_text TalkerId.SA = ascii "\"SA\""
talker_text TalkerId.Unknown = null

-- its report type
abbrev pub report_text : AisReportType → List ℕ
report_text AisReportType.VDM = ascii "\"VDM\""
report_text AisReportType.VDO = ascii "\"VDO\""
report_text AisReportType.Unknown = null

-- "channel up to a comma, its first byte kept or none": a byte is below 256
abbrev pub channel_text : Option ℕ → List ℕ
channel_text None = null
channel_text (Some c) = quoted_in (c % 256 ∷ [])

-- ---- messages
-- an object of gpsd's class, with the number of the line in the input
abbrev pub opened : ℕ → List ℕ
opened line = ascii "{\"class\":\"AIS\"" ++ member "line" (decimal_of line)

-- what every message has: talker, report and channel of its line, type, repeat and MMSI
abbrev pub head : ℕ → Sentence → ℕ → ℕ → ℕ → List ℕ
head line s type repeat mmsi =
    opened line
    ++ member "talker" (talker_text s.talker_id)
    ++ member "report" (report_text s.report_type)
    ++ member "channel" (channel_text s.channel)
    ++ member "type" (decimal_of type)
    ++ member "repeat" (decimal_of repeat)
    ++ member "mmsi" (decimal_of mmsi)

-- types 1 to 3; the radio status is a number of its own 19 bits
abbrev pub position_object : ℕ → Sentence → PositionReport → List ℕ → List ℕ
position_object line s p bits =
    head line s p.message_type p.repeat_indicator p.mmsi
    ++ member "status" (the_status_text p.navigation_status)
    ++ member "status_text" (status_name (status_number p.navigation_status))
    ++ member "turn" (turn_text p.rate_of_turn)
    ++ member "turn_rate" (rate_text p.rate)
    ++ member "speed" (reading_text p.speed_over_ground (tenths_in p.speed_raw))
    ++ member "speed_raw" (decimal_of p.speed_raw)
    ++ member "accuracy" (truth (is_dgps p.position_accuracy))
    ++ member "lon" (reading_text p.longitude (degrees_text p.longitude_raw))
    ++ member "lon_raw" (integer p.longitude_raw)
    ++ member "lat" (reading_text p.latitude (degrees_text p.latitude_raw))
    ++ member "lat_raw" (integer p.latitude_raw)
    ++ member "course" (reading_text p.course_over_ground (tenths_in p.course_raw))
    ++ member "course_raw" (decimal_of p.course_raw)
    ++ member "heading" (heading_text p.true_heading)
    ++ member "second" (decimal_of p.timestamp)
    ++ member "maneuver" (manoeuvre_text p.maneuver_indicator)
    ++ member "raim" (truth p.raim)
    ++ member "radio" (decimal_of (number_at bits position_table.radio))
    ++ ascii "}\n"

-- type 24: the number of the part
abbrev pub part_number : MessagePart → ℕ
part_number MessagePart.PartA = 0
part_number (MessagePart.PartB b) = 1
part_number (MessagePart.Unknown n) = n

-- "Part 1: ship type 8, vendor 18, model 4, serial 20 (the same 24 bits also shown as text), call sign 42, bow 9, stern 9, port 6, starboard 6"
abbrev pub craft_members : PartB → Texts → List ℕ
craft_members b t =
    member "shiptype" (decimal_of b.ship_type)
    ++ member "shiptype_text" (ship_name b.ship_type)
    ++ member "vendorid" (spelled t.vendor_id)
    ++ member "model" (decimal_of b.unit_model_code)
    ++ member "serial" (decimal_of b.serial_number)
    ++ member "model_serial" (spelled t.model_serial)
    ++ member "callsign" (spelled t.callsign)
    ++ member "to_bow" (decimal_of b.dimension_to_bow)
    ++ member "to_stern" (decimal_of b.dimension_to_stern)
    ++ member "to_port" (decimal_of b.dimension_to_port)
    ++ member "to_starboard" (decimal_of b.dimension_to_starboard)

-- "Part 0: name 120"; "Parts 2 and 3: unknown, nothing more read"
abbrev pub part_members : MessagePart → Texts → List ℕ
part_members MessagePart.PartA t = member "shipname" (spelled t.vessel_name)
part_members (MessagePart.PartB b) t = craft_members b t
part_members (MessagePart.Unknown n) t = []

-- type 24, with its texts
abbrev pub static_object : ℕ → Sentence → StaticDataReport → Texts → List ℕ
static_object line s r t =
    head line s r.message_type r.repeat_indicator r.mmsi
    ++ member "partno" (decimal_of (part_number r.message_part))
    ++ part_members r.message_part t
    ++ ascii "}\n"

-- type 15, "at most two stations, each with at most two messages": the stations that are asked, of the two places
abbrev pub stations_of : Interrogation → List Station
stations_of i = take i.count i.stations

-- the messages that are asked of the station at a place, counted from 0
abbrev pub asked_of : List Station → ℕ → List asked.Message
asked_of [] k = []
asked_of (s ∷ stations) zero = take s.count s.messages
asked_of (s ∷ stations) (suc k) = asked_of stations k

-- what is told of the one at a place of a list, or null
abbrev pub tell_at : {A : Type 0} → (A → List ℕ) → List A → ℕ → List ℕ
tell_at tell [] k = null
tell_at tell (x ∷ l) zero = tell x
tell_at tell (x ∷ l) (suc k) = tell_at tell l k

-- a station's number
abbrev pub mmsi_at : Interrogation → ℕ → List ℕ
mmsi_at i station = tell_at (λ (s : Station). decimal_of s.mmsi) (stations_of i) station

-- the type of a message that is asked of it
abbrev pub type_at : Interrogation → ℕ → ℕ → List ℕ
type_at i station message = tell_at (λ (m : asked.Message). decimal_of m.message_type) (asked_of (stations_of i) station) message

-- the slot offset of that message
abbrev pub offset_at : Interrogation → ℕ → ℕ → List ℕ
offset_at i station message = tell_at (λ (m : asked.Message). offset_text m.slot_offset) (asked_of (stations_of i) station) message

-- type 15: the members of both stations and of all four messages are always there
abbrev pub asked_object : ℕ → Sentence → Interrogation → List ℕ
asked_object line s i =
    head line s i.message_type i.repeat_indicator i.mmsi
    ++ member "mmsi1" (mmsi_at i 0)
    ++ member "type1_1" (type_at i 0 0)
    ++ member "offset1_1" (offset_at i 0 0)
    ++ member "type1_2" (type_at i 0 1)
    ++ member "offset1_2" (offset_at i 0 1)
    ++ member "mmsi2" (mmsi_at i 1)
    ++ member "type2_1" (type_at i 1 0)
    ++ member "offset2_1" (offset_at i 1 0)
    ++ member "type2_2" (type_at i 1 1)
    ++ member "offset2_2" (offset_at i 1 1)
    ++ ascii "}\n"

-- by type; a message that tells nothing, which no call gives (proofs/Told), has the number of the line alone
abbrev pub content_object : AisMessage → ℕ → Sentence → Message → List ℕ → List ℕ
content_object AisMessage.Nothing line s m bits = opened line ++ ascii "}\n"
content_object (AisMessage.PositionReport p) line s m bits = position_object line s p bits
content_object (AisMessage.StaticDataReport r) line s m bits = static_object line s r m.texts
content_object AisMessage.Interrogation line s m bits = asked_object line s m.interrogation

-- a message of any type
unfoldable pub message_object : ℕ → Sentence → Message → List ℕ → List ℕ
message_object line s m bits = content_object m.content line s m bits

-- ---- refused lines
-- numbers with commas (44) between them
abbrev pub listed : List ℕ → List ℕ
listed [] = []
listed (v ∷ []) = decimal_of v
listed (v ∷ w ∷ values) = decimal_of v ++ 44 ∷ listed (w ∷ values)

-- "An array structure is represented as square brackets surrounding zero or more values" (RFC 8259)
abbrev pub array : List ℕ → List ℕ
array values = ascii "[" ++ listed values ++ ascii "]"

-- the reason of a number, or that the line is another kind's
abbrev pub reason_of : ℕ → Bool → List ℕ
reason_of n other = pick other (ascii "NMEA sentence of another kind") (get_or ([] ∷ spelt reasons) n [])

-- refusal 3 returns the "number in the line, number found"
abbrev pub sum_members : ℕ → List ℕ → List ℕ
sum_members n values =
    pick (eqb n 3) (member "checksum" (in_quotes (pair_in (get_or values 0 0))) ++ member "computed" (in_quotes (pair_in (get_or values 1 0)))) []

-- the sender, where it is told
abbrev pub sender_member : Option ℕ → List ℕ
sender_member None = []
sender_member (Some mmsi) = member "mmsi" (decimal_of mmsi)

-- refusal 10 returns "the type"; the sender, where it is told
abbrev pub type_members : ℕ → List ℕ → Option ℕ → List ℕ
type_members n values sender = pick (eqb n 10) (member "type" (decimal_of (get_or values 0 0))) [] ++ sender_member sender

-- the line's own text, of which at most 100 bytes are shown
abbrev pub text_members : List ℕ → Bool → List ℕ
text_members text cut = member "text" (quoted_in (take 100 text)) ++ pick cut (member "text_cut" (ascii "true")) []

-- what is told of a refused line beside its number, its refusal's and the values: the sender, whether it is another kind's, its text, and whether there is more
-- of that
pub record About : Type 0 where
  pub sender : Option ℕ
  pub other : Bool
  pub text : List ℕ
  pub cut : Bool

unfoldable pub refused_object : ℕ → ℕ → List ℕ → About → List ℕ
refused_object line n values about =
    ascii "{\"class\":\"ERROR\""
    ++ member "line" (decimal_of line)
    ++ member "refusal" (decimal_of n)
    ++ member "values" (array values)
    ++ sum_members n values
    ++ type_members n values about.sender
    ++ member "message" (in_quotes (reason_of n about.other))
    ++ text_members about.text about.cut
    ++ ascii "}\n"
