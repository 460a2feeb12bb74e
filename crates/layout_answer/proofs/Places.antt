-- What stands at the places that the tables read: each name of layout_numbers/specs/Places is held to the field of the answer that it names. Assumes nothing.
use Prim.Native.Nat.{ℕ, ◌+◌}
use native.Mathlib.Omega.{arith}
use mathlib.Core.Path.{◌≡◌, refl, sym, ap, ◌∙◌}
use mathlib.Core.List.{List, [], ◌∷◌, ◌++◌}
use lib.ListN.{length, get_or, take, drop}
use lib.Seq.{take_at, drop_at, drop-drop, take_all, get_or-append-add}
use Rattle.refusal.specs.Words.{Told, taken, refused}
use Rattle.answer.specs.Answer.{Progress, complete, outcome_in}
use Rattle.answer.specs.declared.Answer.{Answer}
use Rattle.answer.specs.declared.Sentence.{Sentence}
use Rattle.navigation.specs.Navigation.{accuracy_number, manoeuvre_number}
use Rattle.radio_status.specs.Radio.{sync_number}
use Rattle.radio_status.specs.declared.SubMessage.{SubMessage}
use Rattle.radio_status.specs.declared.SotdmaMessage.{SotdmaMessage}
use Rattle.radio_status.specs.declared.ItdmaMessage.{ItdmaMessage}
use Rattle.radio_status.specs.declared.RadioStatus.{RadioStatus}
use Rattle.position_report.specs.Report.{status_number}
use Rattle.position_report.specs.declared.PositionReport.{PositionReport}
use Rattle.static_data_report.specs.declared.MessagePart.{MessagePart}
use Rattle.static_data_report.specs.declared.StaticDataReport.{StaticDataReport}
use Rattle.static_data_report.specs.declared.PartB.{PartB}
use Rattle.static_data_report.specs.declared.Texts.{Texts}
use Rattle.interrogation.specs.Interrogation.{no_message, no_station}
use Rattle.interrogation.specs.declared.Interrogation.{Interrogation}
use Rattle.messages.specs.declared.AisMessage.{AisMessage}
use Rattle.layout_answer.specs.Sentence.{code_of, value_count, talker_number, report_number}
use Rattle.layout_numbers.specs.Optional.{there_of, value_of}
use Rattle.layout_position.specs.Position.{word_of, flag_of, reading_in, turn_in, direction_number}
use Rattle.layout_answer.specs.Answer.{answer_numbers}
use Rattle.layout_answer.proofs.Counts.{answer-length}
use Rattle.layout_numbers.specs.Places as at
use Rattle.layout_answer.specs.declared.whole.Layout.{Layout}
use Rattle.layout_answer.specs.Layout.{layout_by, layout_of}

-- places, each with what is to stand there: what does stand at them is that
abbrev there : List ℕ → List (ℕ × ℕ) → List ℕ
there numbers [] = []
there numbers (r ∷ rows) = get_or numbers r.0 0 ∷ there numbers rows

abbrev named : List (ℕ × ℕ) → List ℕ
named [] = []
named (r ∷ rows) = r.1 ∷ named rows

abbrev pub Stand : Layout → List (ℕ × ℕ) → Type 0
Stand l rows = there l.numbers rows ≡ named rows

-- the layout of an answer, of a message with this content
abbrev told : Told Progress → Sentence → AisMessage → Texts → Interrogation → ℕ → ℕ → Layout
told t s content texts asked line radio = layout_by t s (record { content = content; texts = texts; interrogation = asked }) line radio

module _ (s : Sentence) (texts : Texts) (asked : Interrogation) (line radio : ℕ) where
  pub values_stand : (n : ℕ) (values : List ℕ) (content : AisMessage)
      → Stand (told (refused n values) s content texts asked line radio) ((at.first_value, get_or values 0 0) ∷ (at.second_value, get_or values 1 0) ∷ [])
  values_stand n values content = refl

  pub sentence-stands : (p : Progress) (content : AisMessage)
      → Stand (told (taken p) s content texts asked line radio)
      ((at.talker, talker_number s.talker_id)
      ∷ (at.report, report_number s.report_type)
      ∷ (at.total, s.num_fragments)
      ∷ (at.fragment, s.fragment_number)
      ∷ (at.id_there, there_of s.message_id)
      ∷ (at.id, value_of s.message_id)
      ∷ (at.channel_there, there_of s.channel)
      ∷ (at.channel, value_of s.channel)
      ∷ (at.fill, s.fill_bit_count)
      ∷ (at.crate_type, s.message_type)
      ∷ (at.true_type_there, there_of s.true_type)
      ∷ (at.the_true_type, value_of s.true_type)
      ∷ (at.payload_length, s.payload_len)
      ∷ (at.the_sent_bits, s.sent_bits)
      ∷ [])
  sentence-stands p content = refl

  -- of a complete message
  abbrev of : AisMessage → Layout
  of content = told (taken complete) s content texts asked line radio

  pub nothing-stands : Stand (of AisMessage.Nothing) ((at.kind, 0) ∷ [])
  nothing-stands = refl

  module _ (p : PositionReport) where
    pub position-stands : Stand (of (AisMessage.PositionReport p))
        ((at.kind, 1)
        ∷ (at.type, p.message_type)
        ∷ (at.repeat, p.repeat_indicator)
        ∷ (at.mmsi, p.mmsi)
        ∷ (at.status, status_number p.navigation_status)
        ∷ (at.turn_there, there_of (turn_in p.rate_of_turn))
        ∷ (at.turn, value_of (turn_in p.rate_of_turn))
        ∷ (at.rate_there, there_of (reading_in p.rate))
        ∷ (at.rate, value_of (reading_in p.rate))
        ∷ (at.direction, direction_number p.direction)
        ∷ (at.speed_there, there_of (reading_in p.speed_over_ground))
        ∷ (at.speed, value_of (reading_in p.speed_over_ground))
        ∷ (at.the_speed_raw, p.speed_raw)
        ∷ (at.accuracy, accuracy_number p.position_accuracy)
        ∷ (at.longitude_there, there_of (reading_in p.longitude))
        ∷ (at.longitude, value_of (reading_in p.longitude))
        ∷ (at.the_longitude_raw, word_of p.longitude_raw)
        ∷ (at.latitude_there, there_of (reading_in p.latitude))
        ∷ (at.latitude, value_of (reading_in p.latitude))
        ∷ (at.the_latitude_raw, word_of p.latitude_raw)
        ∷ (at.course_there, there_of (reading_in p.course_over_ground))
        ∷ (at.course, value_of (reading_in p.course_over_ground))
        ∷ (at.the_course_raw, p.course_raw)
        ∷ (at.heading_there, there_of p.true_heading)
        ∷ (at.heading, value_of p.true_heading)
        ∷ (at.second, p.timestamp)
        ∷ (at.manoeuvre, manoeuvre_number p.maneuver_indicator)
        ∷ (at.raim, flag_of p.raim)
        ∷ [])
    position-stands = refl

    module _ (m : SotdmaMessage) (e : p.radio_status ≡ RadioStatus.Sotdma m) where
      pub sotdma_stands : Stand (of (AisMessage.PositionReport p))
          ((at.radio_kind, 1) ∷ (at.sync, sync_number m.sync_state) ∷ (at.timeout, m.slot_timeout) ∷ [])
      sotdma_stands = rw e

      pub offset-stands : (n : ℕ) → m.sub_message ≡ SubMessage.SlotOffset n
          → Stand (of (AisMessage.PositionReport p)) ((at.sub_kind, 1) ∷ (at.sub, n) ∷ [])
      offset-stands n f = rw (e, f)

      pub utc_stands : (hour minute : ℕ) → m.sub_message ≡ SubMessage.UtcHourAndMinute hour minute
          → Stand (of (AisMessage.PositionReport p)) ((at.sub_kind, 2) ∷ (at.sub, hour) ∷ (at.minute, minute) ∷ [])
      utc_stands hour minute f = rw (e, f)

      pub slot_stands : (n : ℕ) → m.sub_message ≡ SubMessage.SlotNumber n
          → Stand (of (AisMessage.PositionReport p)) ((at.sub_kind, 3) ∷ (at.sub, n) ∷ [])
      slot_stands n f = rw (e, f)

      pub received_stands : (n : ℕ) → m.sub_message ≡ SubMessage.ReceivedStations n
          → Stand (of (AisMessage.PositionReport p)) ((at.sub_kind, 4) ∷ (at.sub, n) ∷ [])
      received_stands n f = rw (e, f)

    pub itdma_stands : (m : ItdmaMessage) → p.radio_status ≡ RadioStatus.Itdma m
        → Stand (of (AisMessage.PositionReport p))
        ((at.radio_kind, 2)
        ∷ (at.sync, sync_number m.sync_state)
        ∷ (at.increment, m.slot_increment)
        ∷ (at.slots, m.num_slots)
        ∷ (at.keep, flag_of m.keep)
        ∷ [])
    itdma_stands m e = rw e

  module _ (r : StaticDataReport) where
    pub static_stands : Stand (of (AisMessage.StaticDataReport r))
        ((at.kind, 2) ∷ (at.type, r.message_type) ∷ (at.repeat, r.repeat_indicator) ∷ (at.mmsi, r.mmsi) ∷ [])
    static_stands = refl

    pub name-stands : r.message_part ≡ MessagePart.PartA
        → Stand (of (AisMessage.StaticDataReport r)) ((at.part, 0) ∷ (at.name_length, texts.vessel_name.len) ∷ [])
    name-stands e = rw e

    pub craft_stands : (b : PartB) → r.message_part ≡ MessagePart.PartB b
        → Stand (of (AisMessage.StaticDataReport r))
        ((at.part, 1)
        ∷ (at.the_ship_type, b.ship_type)
        ∷ (at.model, b.unit_model_code)
        ∷ (at.serial, b.serial_number)
        ∷ (at.the_to_bow, b.dimension_to_bow)
        ∷ (at.the_to_stern, b.dimension_to_stern)
        ∷ (at.the_to_port, b.dimension_to_port)
        ∷ (at.the_to_starboard, b.dimension_to_starboard)
        ∷ (at.vendor_length, texts.vendor_id.len)
        ∷ (at.model_text_length, texts.model_serial.len)
        ∷ (at.callsign_length, texts.callsign.len)
        ∷ [])
    craft_stands b e = rw e

    pub part-stands : (n : ℕ) → r.message_part ≡ MessagePart.Unknown n → Stand (of (AisMessage.StaticDataReport r)) ((at.part, n) ∷ [])
    part-stands n e = rw e

  pub asked-stands :
      let first = get_or asked.stations 0 no_station in
      let second = get_or asked.stations 1 no_station in
      let first1 = get_or first.messages 0 no_message in
      let first2 = get_or first.messages 1 no_message in
      let second1 = get_or second.messages 0 no_message in
      let second2 = get_or second.messages 1 no_message in
      Stand (of AisMessage.Interrogation)
      ((at.kind, 3)
      ∷ (at.type, asked.message_type)
      ∷ (at.repeat, asked.repeat_indicator)
      ∷ (at.mmsi, asked.mmsi)
      ∷ (at.stations, asked.count)
      ∷ (at.first_mmsi, first.mmsi)
      ∷ (at.first_messages, first.count)
      ∷ (at.first_type1, first1.message_type)
      ∷ (at.first_offset_there1, there_of first1.slot_offset)
      ∷ (at.first_offset1, value_of first1.slot_offset)
      ∷ (at.first_type2, first2.message_type)
      ∷ (at.first_offset_there2, there_of first2.slot_offset)
      ∷ (at.first_offset2, value_of first2.slot_offset)
      ∷ (at.second_mmsi, second.mmsi)
      ∷ (at.second_messages, second.count)
      ∷ (at.second_type1, second1.message_type)
      ∷ (at.second_offset_there1, there_of second1.slot_offset)
      ∷ (at.second_offset1, value_of second1.slot_offset)
      ∷ (at.second_type2, second2.message_type)
      ∷ (at.second_offset_there2, there_of second2.slot_offset)
      ∷ (at.second_offset2, value_of second2.slot_offset)
      ∷ [])
  asked-stands = refl

  -- where each text begins, of texts of twenty bytes
  module _ (r : StaticDataReport) (a : length texts.vessel_name.bytes ≡ 20) (b : length texts.vendor_id.bytes ≡ 20)
      (c : length texts.model_serial.bytes ≡ 20) (d : length texts.callsign.bytes ≡ 20) where
    abbrev bytes : List ℕ
    bytes = (of (AisMessage.StaticDataReport r)).texts

    after-name : drop 20 bytes ≡ texts.vendor_id.bytes ++ (texts.model_serial.bytes ++ texts.callsign.bytes)
    after-name = drop_at texts.vessel_name.bytes _ 20 a

    after-vendor : drop 40 bytes ≡ texts.model_serial.bytes ++ texts.callsign.bytes
    after-vendor = sym (drop-drop 20 20 bytes) ∙ ap (drop 20) after-name ∙ drop_at texts.vendor_id.bytes _ 20 b

    after-model : drop 60 bytes ≡ texts.callsign.bytes
    after-model = sym (drop-drop 20 40 bytes) ∙ ap (drop 20) after-vendor ∙ drop_at texts.model_serial.bytes _ 20 c

    pub name-starts : take 20 (drop at.name_start bytes) ≡ texts.vessel_name.bytes
    name-starts = take_at texts.vessel_name.bytes _ 20 a

    pub vendor-starts : take 20 (drop at.vendor_start bytes) ≡ texts.vendor_id.bytes
    vendor-starts = ap (take 20) after-name ∙ take_at texts.vendor_id.bytes _ 20 b

    pub model-starts : take 20 (drop at.model_text_start bytes) ≡ texts.model_serial.bytes
    model-starts = ap (take 20) after-vendor ∙ take_at texts.model_serial.bytes _ 20 c

    pub callsign-starts : take 20 (drop at.callsign_start bytes) ≡ texts.callsign.bytes
    callsign-starts = ap (take 20) after-model ∙ take_all 20 texts.callsign.bytes (omega arith)

-- after the fifty, of any answer
module _ (a : Answer) (line radio : ℕ) where
  pub rest_stands : Stand (layout_of a line radio)
      ((at.line, line) ∷ (at.radio, radio) ∷ (at.code, code_of (outcome_in a.outcome)) ∷ (at.value_count, value_count (outcome_in a.outcome)) ∷ [])
  rest_stands = rw (after 0, after 1, after 2, after 3)
    where
      more : List ℕ
      more = line ∷ radio ∷ code_of (outcome_in a.outcome) ∷ value_count (outcome_in a.outcome) ∷ []

      after : (n : ℕ) → get_or (answer_numbers a ++ more) (50 + n) 0 ≡ get_or more n 0
      after n = rw (answer-length a) at (get_or-append-add (answer_numbers a) more n 0)
