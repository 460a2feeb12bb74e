-- What an answer tells, in the words of the comparing protocol.
use Rattle.std.specs.Prelude.{List, ◌++◌}
use Rattle.face_rows.specs.Rows.{is, least, number, signed, hexed, pattern, Row, group}
use Rattle.layout_numbers.specs.Places.{first_value, second_value, talker, report, total, fragment, id_there, id, channel_there, channel, fill, crate_type}
use Rattle.layout_numbers.specs.Places.{true_type_there, the_true_type, the_sent_bits, type, repeat, mmsi, status, turn_there, turn, rate_there, rate, direction, speed_there}
use Rattle.layout_numbers.specs.Places.{speed, the_speed_raw, accuracy, longitude_there, longitude, the_longitude_raw, latitude_there, latitude, the_latitude_raw, course_there}
use Rattle.layout_numbers.specs.Places.{course, the_course_raw, heading_there, heading, second, manoeuvre, raim, radio_kind, sync, timeout, sub_kind, sub, minute}
use Rattle.layout_numbers.specs.Places.{increment, slots, keep, part, the_ship_type, model, serial, the_to_bow, the_to_stern, the_to_port, the_to_starboard, name_length, vendor_length}
use Rattle.layout_numbers.specs.Places.{model_text_length, callsign_length, stations, first_mmsi, first_messages, first_type1, first_offset_there1, first_offset1}
use Rattle.layout_numbers.specs.Places.{first_type2, first_offset_there2, first_offset2, second_mmsi, second_messages, second_type1, second_offset_there1}
use Rattle.layout_numbers.specs.Places.{second_offset1, second_type2, second_offset_there2, second_offset2, code, value_count}
use Rattle.layout_numbers.specs.Places.{name_start, vendor_start, model_text_start, callsign_start}
use Rattle.trace_show.specs.Words.{words, words_if, value, value_if, spaced, or_dash, unless_dash}

-- "TALKER REPORT TOTAL NUMBER ID CHANNEL FILL CRATETYPE TRUETYPE SENT": "TALKER `AB` .. `SA`, or `Unknown`"; "REPORT `VDM`, `VDO` or `Unknown`"
abbrev pub sentence_table : List Row
sentence_table =
    words_if (is talker 0) " Unknown"
    ++ words_if (is talker 1) " AB"
    ++ words_if (is talker 2) " AD"
    ++ words_if (is talker 3) " AI"
    ++ words_if (is talker 4) " AN"
    ++ words_if (is talker 5) " AR"
    ++ words_if (is talker 6) " AS"
    ++ words_if (is talker 7) " AT"
    ++ words_if (is talker 8) " AX"
    ++ words_if (is talker 9) " BS"
    ++ words_if (is talker 10) " SA"
    ++ words_if (is report 0) " Unknown"
    ++ words_if (is report 1) " VDM"
    ++ words_if (is report 2) " VDO"
    ++ spaced (number total)
    ++ spaced (number fragment)
    ++ or_dash id_there (number id)
    ++ or_dash channel_there (number channel)
    ++ spaced (number fill)
    ++ spaced (number crate_type)
    ++ or_dash true_type_there (number the_true_type)
    ++ spaced (number the_sent_bits)

-- "A refusal: `refused N` and its values in document 01's order"
abbrev pub refusal_table : List Row
refusal_table =
    value "refused " (number code)
    ++ value_if (least value_count 1) " " (number first_value)
    ++ value_if (least value_count 2) " " (number second_value)

-- "`sotdma SYNC TIMEOUT offset N`, `sotdma SYNC TIMEOUT utc HOUR MINUTE`, `sotdma SYNC TIMEOUT slot N`, `sotdma SYNC TIMEOUT stations N`"
abbrev pub sotdma_table : List Row
sotdma_table =
    value " sotdma " (number sync)
    ++ spaced (number timeout)
    ++ value_if (is sub_kind 1) " offset " (number sub)
    ++ value_if (is sub_kind 2) " utc " (number sub)
    ++ value_if (is sub_kind 2) " " (number minute)
    ++ value_if (is sub_kind 3) " slot " (number sub)
    ++ value_if (is sub_kind 4) " stations " (number sub)

-- "`itdma SYNC INCREMENT SLOTS KEEP`"
abbrev pub itdma_table : List Row
itdma_table = value " itdma " (number sync) ++ spaced (number increment) ++ spaced (number slots) ++ spaced (number keep)

-- "`position TYPE REPEAT MMSI STATUS TURN RATE DIRECTION SPEEDRAW SPEED ACCURACY LONRAW LON LATRAW LAT COURSERAW COURSE HEADING SECOND MANOEUVRE RAIM
-- RADIO`": an absent status has the number 15, and an absent manoeuvre 0; "A float is the eight hex digits of its bit pattern"
abbrev pub position_table : List Row
position_table =
    value "position " (number type)
    ++ spaced (number repeat)
    ++ spaced (number mmsi)
    ++ unless_dash status 15
    ++ or_dash turn_there (signed turn)
    ++ or_dash rate_there (pattern rate)
    ++ words_if (is direction 0) " -"
    ++ words_if (is direction 1) " port"
    ++ words_if (is direction 2) " starboard"
    ++ spaced (number the_speed_raw)
    ++ or_dash speed_there (pattern speed)
    ++ spaced (number accuracy)
    ++ spaced (signed the_longitude_raw)
    ++ or_dash longitude_there (pattern longitude)
    ++ spaced (signed the_latitude_raw)
    ++ or_dash latitude_there (pattern latitude)
    ++ spaced (number the_course_raw)
    ++ or_dash course_there (pattern course)
    ++ or_dash heading_there (number heading)
    ++ spaced (number second)
    ++ unless_dash manoeuvre 0
    ++ spaced (number raim)
    ++ group (is radio_kind 1) sotdma_table
    ++ group (is radio_kind 2) itdma_table

-- "SHIPTYPE VENDOR MODELTEXT MODEL SERIAL CALLSIGN BOW STERN PORT STARBOARD"
abbrev pub craft_table : List Row
craft_table =
    spaced (number the_ship_type)
    ++ spaced (hexed vendor_length vendor_start)
    ++ spaced (hexed model_text_length model_text_start)
    ++ spaced (number model)
    ++ spaced (number serial)
    ++ spaced (hexed callsign_length callsign_start)
    ++ spaced (number the_to_bow)
    ++ spaced (number the_to_stern)
    ++ spaced (number the_to_port)
    ++ spaced (number the_to_starboard)

-- "`name REPEAT MMSI NAME`, with the text's bytes, for type 24 part 0", "`craft REPEAT MMSI ..`, for part 1", "`part REPEAT MMSI N`, for parts 2 and 3"
abbrev pub static_table : List Row
static_table =
    words_if (is part 0) "name"
    ++ words_if (is part 1) "craft"
    ++ words_if (least part 2) "part"
    ++ spaced (number repeat)
    ++ spaced (number mmsi)
    ++ value_if (is part 0) " " (hexed name_length name_start)
    ++ group (is part 1) craft_table
    ++ value_if (least part 2) " " (number part)

-- "for each station its MMSI, its count of messages, and for each message its type and its slot offset or `-`"
abbrev pub first_table : List Row
first_table =
    spaced (number first_mmsi)
    ++ spaced (number first_messages)
    ++ group (least first_messages 1) (spaced (number first_type1) ++ or_dash first_offset_there1 (number first_offset1))
    ++ group (least first_messages 2) (spaced (number first_type2) ++ or_dash first_offset_there2 (number first_offset2))

abbrev pub second_table : List Row
second_table =
    spaced (number second_mmsi)
    ++ spaced (number second_messages)
    ++ group (least second_messages 1) (spaced (number second_type1) ++ or_dash second_offset_there1 (number second_offset1))
    ++ group (least second_messages 2) (spaced (number second_type2) ++ or_dash second_offset_there2 (number second_offset2))

-- "`interrogation REPEAT MMSI COUNT`", and the stations that are counted
abbrev pub asked_table : List Row
asked_table =
    value "interrogation " (number repeat)
    ++ spaced (number mmsi)
    ++ spaced (number stations)
    ++ group (least stations 1) first_table
    ++ group (least stations 2) second_table

abbrev pub none_table : List Row
none_table = words "none"
