-- Messages as JSON objects, by gpsd's names: the members of the AIVDM description's tables in their order. What is absent is null; speeds, courses and
-- positions are written from the number as sent, the raw number after each. The head and a position report are put without a table (src/lib.rt).
use Rattle.std.specs.Prelude.{List, ◌++◌, take, drop}
use Rattle.face_rows.specs.Rows.{always, is, is_not, least, below, number, signed, tenths, degrees, quoted, letter, float, Row, group}
use Rattle.layout_numbers.specs.Places.{talker, report, channel_there, channel, rate_there, rate}
use Rattle.layout_numbers.specs.Places.{type, repeat, mmsi, status, turn_there, turn, speed_there, the_speed_raw, accuracy, longitude_there, the_longitude_raw}
use Rattle.layout_numbers.specs.Places.{latitude_there, the_latitude_raw, course_there, the_course_raw, heading_there, heading, second, manoeuvre, raim, line, radio}
use Rattle.layout_numbers.specs.Places.{part, the_ship_type, model, serial, the_to_bow, the_to_stern, the_to_port, the_to_starboard, name_length, vendor_length, model_text_length}
use Rattle.layout_numbers.specs.Places.{callsign_length, stations, first_mmsi, first_messages, first_type1, first_offset_there1, first_offset1, first_type2}
use Rattle.layout_numbers.specs.Places.{first_offset_there2, first_offset2, second_mmsi, second_messages, second_type1, second_offset_there1, second_offset1}
use Rattle.layout_numbers.specs.Places.{second_type2, second_offset_there2, second_offset2, name_start, vendor_start, model_text_start, callsign_start}
use Rattle.face_members.specs.Words.{statuses, thirties, fifties}
use Rattle.face_members.specs.Members.{words, words_if, value_if, member, member_if, or_null, unless_null, least_or_null, flag, between, words_from}
use Rattle.face_members.specs.Members.{quoted_from, kind_rows}

-- an object of gpsd's class, with the number of the line in the input
abbrev pub opened_table : List Row
opened_table = value_if always "{\"class\":\"AIS\",\"line\":" (number line)

-- the line's talker, by its number in document 000's list; most are AI
abbrev pub other_talkers : List Row
other_talkers =
    words_if (is talker 0) ",\"talker\":null"
    ++ words_if (is talker 1) ",\"talker\":\"AB\""
    ++ words_if (is talker 2) ",\"talker\":\"AD\""
    ++ words_if (is talker 4) ",\"talker\":\"AN\""
    ++ words_if (is talker 5) ",\"talker\":\"AR\""
    ++ words_if (is talker 6) ",\"talker\":\"AS\""
    ++ words_if (is talker 7) ",\"talker\":\"AT\""
    ++ words_if (is talker 8) ",\"talker\":\"AX\""
    ++ words_if (is talker 9) ",\"talker\":\"BS\""
    ++ words_if (is talker 10) ",\"talker\":\"SA\""

abbrev pub talker_table : List Row
talker_table = words_if (is talker 3) ",\"talker\":\"AI\"" ++ group (is_not talker 3) other_talkers

-- its report type; most are VDM
abbrev pub other_reports : List Row
other_reports = words_if (is report 0) ",\"report\":null" ++ words_if (is report 2) ",\"report\":\"VDO\""

abbrev pub report_table : List Row
report_table = words_if (is report 1) ",\"report\":\"VDM\"" ++ group (is_not report 1) other_reports

abbrev pub origin_table : List Row
origin_table = talker_table ++ report_table

-- what every message has
abbrev pub head_table : List Row
head_table =
    opened_table
    ++ origin_table
    ++ or_null "channel" channel_there (letter channel)
    ++ member "type" (number type)
    ++ member "repeat" (number repeat)
    ++ member "mmsi" (number mmsi)

-- a message that tells nothing, which decoding never gives
abbrev pub nothing_table : List Row
nothing_table = opened_table ++ words "}\n"

-- the words of a status: 0, which most ships send, 1 to 5, and the others; 15 is none
abbrev pub status_table : List Row
status_table =
    quoted_from "status_text" status 0 (take 1 statuses)
    ++ between status 1 6 (quoted_from "status_text" status 1 (take 5 (drop 1 statuses)))
    ++ group (least status 6) (quoted_from "status_text" status 6 (drop 6 statuses) ++ words_if (least status 15) ",\"status_text\":null")

-- types 1 to 3; an absent status has the number 15, and an absent manoeuvre 0
abbrev pub status_members : List Row
status_members = unless_null "status" status 15 ++ status_table

abbrev pub motion_members : List Row
motion_members =
    or_null "turn" turn_there (signed turn)
    ++ or_null "turn_rate" rate_there (float rate)
    ++ or_null "speed" speed_there (tenths the_speed_raw)
    ++ member "speed_raw" (number the_speed_raw)

abbrev pub place_members : List Row
place_members =
    flag "accuracy" accuracy
    ++ or_null "lon" longitude_there (degrees the_longitude_raw)
    ++ member "lon_raw" (signed the_longitude_raw)
    ++ or_null "lat" latitude_there (degrees the_latitude_raw)
    ++ member "lat_raw" (signed the_latitude_raw)

abbrev pub course_members : List Row
course_members =
    or_null "course" course_there (tenths the_course_raw)
    ++ member "course_raw" (number the_course_raw)
    ++ or_null "heading" heading_there (number heading)
    ++ member "second" (number second)

-- and what is last; a further member of a position report is a row here
abbrev pub last_table : List Row
last_table = unless_null "maneuver" manoeuvre 0 ++ flag "raim" raim ++ member "radio" (number radio) ++ words "}\n"

abbrev pub position_table : List Row
position_table = head_table ++ status_members ++ motion_members ++ place_members ++ course_members ++ last_table

-- the words of a ship type; above 99 there are none
abbrev pub ship_table : List Row
ship_table =
    words_if (below the_ship_type 100) ",\"shiptype_text\":\""
    ++ words_if (is the_ship_type 0) "Not available (default)"
    ++ between the_ship_type 1 20 (words "Reserved for future use")
    ++ kind_rows the_ship_type 20 "Wing in ground (WIG)" ", Reserved for future use"
    ++ between the_ship_type 30 40 (words_from the_ship_type 30 thirties)
    ++ kind_rows the_ship_type 40 "High speed craft (HSC)" ", No additional information"
    ++ between the_ship_type 50 60 (words_from the_ship_type 50 fifties)
    ++ kind_rows the_ship_type 60 "Passenger" ", No additional information"
    ++ kind_rows the_ship_type 70 "Cargo" ", No additional information"
    ++ kind_rows the_ship_type 80 "Tanker" ", No additional information"
    ++ kind_rows the_ship_type 90 "Other Type" ", no additional information"
    ++ words_if (below the_ship_type 100) "\""
    ++ words_if (least the_ship_type 100) ",\"shiptype_text\":null"

-- what part 1 of type 24 has
abbrev pub craft_members : List Row
craft_members =
    member "shiptype" (number the_ship_type)
    ++ ship_table
    ++ member "vendorid" (quoted vendor_length vendor_start)
    ++ member "model" (number model)
    ++ member "serial" (number serial)
    ++ member "model_serial" (quoted model_text_length model_text_start)
    ++ member "callsign" (quoted callsign_length callsign_start)
    ++ member "to_bow" (number the_to_bow)
    ++ member "to_stern" (number the_to_stern)
    ++ member "to_port" (number the_to_port)
    ++ member "to_starboard" (number the_to_starboard)

abbrev pub craft_body : List Row
craft_body = member "partno" (number part) ++ craft_members ++ words "}\n"

abbrev pub craft_table : List Row
craft_table = head_table ++ craft_body

-- the other parts of type 24: of parts 2 and 3 "nothing more" is read (document 01)
abbrev pub static_body : List Row
static_body = member "partno" (number part) ++ member_if (is part 0) "shipname" (quoted name_length name_start) ++ words "}\n"

abbrev pub static_table : List Row
static_table = head_table ++ static_body

-- type 15, "at most two stations, each with at most two messages" (document 01): the members of all four are always there, null where nothing is asked
abbrev pub asked_body : List Row
asked_body =
    least_or_null "mmsi1" stations 1 (number first_mmsi)
    ++ least_or_null "type1_1" first_messages 1 (number first_type1)
    ++ or_null "offset1_1" first_offset_there1 (number first_offset1)
    ++ least_or_null "type1_2" first_messages 2 (number first_type2)
    ++ or_null "offset1_2" first_offset_there2 (number first_offset2)
    ++ least_or_null "mmsi2" stations 2 (number second_mmsi)
    ++ least_or_null "type2_1" second_messages 1 (number second_type1)
    ++ or_null "offset2_1" second_offset_there1 (number second_offset1)
    ++ least_or_null "type2_2" second_messages 2 (number second_type2)
    ++ or_null "offset2_2" second_offset_there2 (number second_offset2)
    ++ words "}\n"

abbrev pub asked_table : List Row
asked_table = head_table ++ asked_body
