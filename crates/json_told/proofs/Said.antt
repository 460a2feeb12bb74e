-- What the tables of face_json say of a message is what json_told/specs/Object says of its fields, member by member. Assumes nothing.
use Prim.Native.Nat.{ℕ, ◌+◌}
use native.Mathlib.Omega.{arith}
use mathlib.Core.Logic.{◌⊎◌, inl, inr}
use mathlib.Core.Path.{◌≡◌, refl, ap, ◌∙◌}
use mathlib.Core.Bool.{false}
use mathlib.Core.List.{List, [], ◌∷◌, ◌++◌}
use lib.Dec.{eqb}
use lib.ListN.{length, get_or, take, length-append}
use lib.Seq.{get_or-append-add}
use borrow.Author.Tests.{ne_eqb}
use Rattle.refusal.specs.Words.{Told, taken, refused}
use Rattle.parsers.specs.Table.{number_at}
use Rattle.parsers.specs.declared.Text.{Text}
use Rattle.position_report.specs.Table as report
use Rattle.position_report.specs.declared.PositionReport.{PositionReport}
use Rattle.static_data_report.specs.Sound.{PartSound}
use Rattle.static_data_report.specs.declared.PartB.{PartB}
use Rattle.static_data_report.specs.declared.MessagePart.{MessagePart}
use Rattle.static_data_report.specs.declared.StaticDataReport.{StaticDataReport}
use Rattle.static_data_report.specs.declared.Texts.{Texts}
use Rattle.interrogation.specs.Interrogation.{no_station}
use Rattle.interrogation.specs.declared.Message as asked
use Rattle.interrogation.specs.declared.Interrogation.{Interrogation}
use Rattle.messages.specs.declared.AisMessage.{AisMessage}
use Rattle.messages.specs.declared.Message.{Message}
use Rattle.answer.specs.Answer.{Progress, complete}
use Rattle.answer.specs.declared.Sentence.{Sentence}
use Rattle.text_out.specs.Text.{ascii}
use Rattle.text_out.specs.Digits.{decimal_of}
use Rattle.position_report.specs.Report.{status_number}
use Rattle.layout_answer.specs.Sentence.{code_of, value_count, values_of, sentence_numbers}
use Rattle.layout_answer.specs.Answer.{numbers_by}
use Rattle.layout_message.specs.Static.{text_bytes}
use Rattle.layout_message.specs.Message.{message_numbers}
use Rattle.layout_message.proofs.Counts.{message-length}
use Rattle.layout_answer.specs.Layout.{layout_by}
use Rattle.layout_answer.specs.declared.whole.Layout.{Layout}
use Rattle.layout_answer.proofs.Places.{name-starts, vendor-starts, model-starts, callsign-starts}
use Rattle.face_values.specs.Quoted.{quoted_in}
use Rattle.face_rows.specs.Rows.{Row, always, is, number, signed, tenths, degrees, quoted, letter, float, text_at, printed}
use Rattle.layout_numbers.specs.Places as at
use Rattle.face_members.specs.Members as face
use Rattle.face_json.specs.Tables.{opened_table, head_table, position_table, craft_members as craft_rows, asked_table}
use Rattle.face_json.specs.Line.{table_of, message_line}
use Rattle.json_told.specs.Laid.{line_for}
use Rattle.json_told.specs.Object.{member, spelled, opened, head, position_object, part_number, craft_members}
use Rattle.json_told.specs.Object.{part_members, stations_of, asked_of, tell_at, asked_object, message_object}
use Rattle.json_told.proofs.Sound.{PositionSound, TextsSound, AskedSound, ContentSound, Sound}
use Rattle.face_rows.proofs.Says.{Says, ◌then◌, whole, said, row-says, row_silent}
use Rattle.face_members.proofs.Members.{words_say, member-says, member_if_says, or_null-says, unless-null-says, least_or_null-says, flag-says}
use Rattle.face_json.proofs.Statuses.{status-says}
use Rattle.json_told.proofs.Names.{talker-says, report-says, ship_says}
use Rattle.json_told.proofs.Values.{signed-said, degrees-said, reading_said, rate-said, channel-said, turn-said, heading-said}
use Rattle.json_told.proofs.Values.{manoeuvre-said, dgps_said, flag-said}
use Rattle.json_told.proofs.Values.{text-said, mmsi_told, type_told, offset_told, first_said, second-said, first-offset, second-offset, of-first, of-second}

-- ---- the layout of an answer: the four numbers after the fifty
values_two : (t : Told Progress) → length (values_of t) ≡ 2
values_two (taken p) = refl
values_two (refused n values) = refl

module _ (t : Told Progress) (sentence : Sentence) (m : Message) (line : ℕ) (bits : List ℕ) where
  abbrev pub laid : Layout
  laid = layout_by t sentence m line (number_at bits (report.position_table).radio)

  fifty : length (numbers_by t sentence m) ≡ 50
  fifty = omega (arith, length-append (values_of t) (sentence_numbers sentence ++ message_numbers m), values_two t, message-length m)

  abbrev more : List ℕ
  more = line ∷ number_at bits (report.position_table).radio ∷ code_of t ∷ value_count t ∷ []

  pub after : (n : ℕ) → get_or laid.numbers (50 + n) 0 ≡ get_or more n 0
  after n = rw fifty at (get_or-append-add (numbers_by t sentence m) more n 0)

-- an unknown part
neither : (n : ℕ) → (n ≡ 2) ⊎ (n ≡ 3) → (eqb n 0 ≡ false) × (eqb n 1 ≡ false)
neither n (inl e) = (ne_eqb n 0 (λ z. omega arith), ne_eqb n 1 (λ z. omega arith))
neither n (inr e) = (ne_eqb n 0 (λ z. omega arith), ne_eqb n 1 (λ z. omega arith))

-- ---- a complete message
module _ (sentence : Sentence) (line : ℕ) (bits : List ℕ) where
  module _ (m : Message) where
    abbrev shown : Layout
    shown = laid (taken complete) sentence m line bits

    abbrev Rows : List Row → List ℕ → Type 0
    Rows rows s = Says shown.numbers shown.texts rows s

    its : (n : ℕ) → get_or shown.numbers (50 + n) 0 ≡ get_or (more (taken complete) sentence m line bits) n 0
    its n = after (taken complete) sentence m line bits n

    opens : Rows opened_table (opened line)
    opens =
        let word = ascii "{\"class\":\"AIS\",\"line\":" in
        said (ap (λ (k : ℕ). word ++ decimal_of k) (its 0)) (row-says always refl word (number at.line))

    -- what every message has, where its first three numbers stand
    heads : (type repeat mmsi : ℕ) → get_or shown.numbers at.type 0 ≡ type → get_or shown.numbers at.repeat 0 ≡ repeat
        → get_or shown.numbers at.mmsi 0 ≡ mmsi → Rows head_table (head line sentence type repeat mmsi)
    heads type repeat mmsi a b c =
        opens
        then talker-says sentence.talker_id refl
        then report-says sentence.report_type refl
        then or_null-says "channel" at.channel_there (letter at.channel) (channel-said sentence.channel)
        then member-says "type" (number at.type) (ap decimal_of a)
        then member-says "repeat" (number at.repeat) (ap decimal_of b)
        then member-says "mmsi" (number at.mmsi) (ap decimal_of c)

    -- its kind and its part have a table
    by_kind : (kind part : ℕ) {s : List ℕ} → get_or shown.numbers at.kind 0 ≡ kind → get_or shown.numbers at.part 0 ≡ part → Rows (table_of kind part) s
        → line_for line (taken complete) sentence m bits ≡ s
    unfolding message_line
    by_kind kind part e d p =
        ap (λ (k : ℕ). printed (table_of k (get_or shown.numbers at.part 0)) shown.numbers shown.texts) e
        ∙ ap (λ (k : ℕ). printed (table_of kind k) shown.numbers shown.texts) d
        ∙ whole p

  -- with its content
  module _ (texts : Texts) (i : Interrogation) where
    abbrev of : AisMessage → Message
    of content = record { content = content; texts = texts; interrogation = i }

    -- ---- types 1 to 3
    module _ (p : PositionReport) (sound : PositionSound p) where
      abbrev position : Message
      position = of (AisMessage.PositionReport p)

      position-says : Rows position position_table (position_object line sentence p bits)
      position-says =
          let longitude = degrees-said p.longitude_raw sound.longitude in
          let latitude = degrees-said p.latitude_raw sound.latitude in
          heads position p.message_type p.repeat_indicator p.mmsi refl refl refl
          then unless-null-says "status" at.status 15 refl
          then status-says (status_number p.navigation_status) refl
          then or_null-says "turn" at.turn_there (signed at.turn) (turn-said p.rate_of_turn sound.turn)
          then or_null-says "turn_rate" at.rate_there (float at.rate) (rate-said p.rate)
          then or_null-says "speed" at.speed_there (tenths at.the_speed_raw) (reading_said p.speed_over_ground refl)
          then member-says "speed_raw" (number at.the_speed_raw) refl
          then flag-says "accuracy" at.accuracy (dgps_said p.position_accuracy)
          then or_null-says "lon" at.longitude_there (degrees at.the_longitude_raw) (reading_said p.longitude longitude)
          then member-says "lon_raw" (signed at.the_longitude_raw) (signed-said p.longitude_raw sound.longitude)
          then or_null-says "lat" at.latitude_there (degrees at.the_latitude_raw) (reading_said p.latitude latitude)
          then member-says "lat_raw" (signed at.the_latitude_raw) (signed-said p.latitude_raw sound.latitude)
          then or_null-says "course" at.course_there (tenths at.the_course_raw) (reading_said p.course_over_ground refl)
          then member-says "course_raw" (number at.the_course_raw) refl
          then or_null-says "heading" at.heading_there (number at.heading) (heading-said p.true_heading)
          then member-says "second" (number at.second) refl
          then unless-null-says "maneuver" at.manoeuvre 0 (manoeuvre-said p.maneuver_indicator sound.manoeuvre)
          then flag-says "raim" at.raim (flag-said p.raim)
          then member-says "radio" (number at.radio) (ap decimal_of (its position 1))
          then words_say "}\n"

    -- ---- type 24
    module _ (r : StaticDataReport) (ts : TextsSound texts) where
      -- each text, where it stands among the eighty bytes
      abbrev Spelt : ℕ → Text → Type 0
      Spelt start t = quoted_in (text_at (text_bytes texts) start t.len) ≡ spelled t

      name-spelt : Spelt at.name_start texts.vessel_name
      name-spelt =
          let e = name-starts sentence texts i line 0 r ts.name.bytes ts.vendor.bytes ts.model.bytes ts.callsign.bytes in
          text-said texts.vessel_name (text_bytes texts) at.name_start e ts.name.len

      vendor-spelt : Spelt at.vendor_start texts.vendor_id
      vendor-spelt =
          let e = vendor-starts sentence texts i line 0 r ts.name.bytes ts.vendor.bytes ts.model.bytes ts.callsign.bytes in
          text-said texts.vendor_id (text_bytes texts) at.vendor_start e ts.vendor.len

      model-spelt : Spelt at.model_text_start texts.model_serial
      model-spelt =
          let e = model-starts sentence texts i line 0 r ts.name.bytes ts.vendor.bytes ts.model.bytes ts.callsign.bytes in
          text-said texts.model_serial (text_bytes texts) at.model_text_start e ts.model.len

      callsign-spelt : Spelt at.callsign_start texts.callsign
      callsign-spelt =
          let e = callsign-starts sentence texts i line 0 r ts.name.bytes ts.vendor.bytes ts.model.bytes ts.callsign.bytes in
          text-said texts.callsign (text_bytes texts) at.callsign_start e ts.callsign.len

      -- the report, of each part
      abbrev static : MessagePart → Message
      static part =
          of
          (AisMessage.StaticDataReport
          (record { message_type = r.message_type; repeat_indicator = r.repeat_indicator; mmsi = r.mmsi; message_part = part }))

      craft_says : (b : PartB) → Rows (static (MessagePart.PartB b)) craft_rows (craft_members b texts)
      craft_says b =
          member-says "shiptype" (number at.the_ship_type) refl
          then ship_says b.ship_type refl
          then member-says "vendorid" (quoted at.vendor_length at.vendor_start) vendor-spelt
          then member-says "model" (number at.model) refl
          then member-says "serial" (number at.serial) refl
          then member-says "model_serial" (quoted at.model_text_length at.model_text_start) model-spelt
          then member-says "callsign" (quoted at.callsign_length at.callsign_start) callsign-spelt
          then member-says "to_bow" (number at.the_to_bow) refl
          then member-says "to_stern" (number at.the_to_stern) refl
          then member-says "to_port" (number at.the_to_port) refl
          then member-says "to_starboard" (number at.the_to_starboard) refl

      -- what stands before what a part has
      before-part : (part : MessagePart) → get_or (shown (static part)).numbers at.part 0 ≡ part_number part
          → Rows (static part) (head_table ++ face.member "partno" (number at.part))
          (head line sentence r.message_type r.repeat_indicator r.mmsi ++ member "partno" (decimal_of (part_number part)))
      before-part part e =
          heads (static part) r.message_type r.repeat_indicator r.mmsi refl refl refl
          then member-says "partno" (number at.part) (ap decimal_of e)

      static_said : (part : MessagePart) → PartSound part
          → line_for line (taken complete) sentence (static part) bits
          ≡ head line sentence r.message_type r.repeat_indicator r.mmsi
          ++ member "partno" (decimal_of (part_number part))
          ++ part_members part texts
          ++ ascii "}\n"
      static_said MessagePart.PartA h =
          by_kind (static MessagePart.PartA) 2 0 refl refl
          (before-part MessagePart.PartA refl
          then member_if_says "shipname" (is at.part 0) (quoted at.name_length at.name_start) refl name-spelt
          then words_say "}\n")
      static_said (MessagePart.PartB b) h =
          by_kind (static (MessagePart.PartB b)) 2 1 refl refl (before-part (MessagePart.PartB b) refl then craft_says b then words_say "}\n")
      static_said (MessagePart.Unknown n) h =
          by_kind (static (MessagePart.Unknown n)) 2 n refl refl
          (rw (neither n h).1
          (before-part (MessagePart.Unknown n) refl
          then row_silent (is at.part 0) (neither n h).0 (face.key "shipname") (quoted at.name_length at.name_start)
          then words_say "}\n"))

    -- ---- type 15
    module _ (sound : AskedSound i) where
      module _ (tell : asked.Message → List ℕ) (k : ℕ) where
        at_first : tell_at tell (take (get_or i.stations 0 no_station).count (get_or i.stations 0 no_station).messages) k
            ≡ tell_at tell (asked_of (stations_of i) 0) k
        at_first = ap (λ (l : List asked.Message). tell_at tell l k) (of-first sound.stations)

        at_second : tell_at tell (take (get_or i.stations 1 no_station).count (get_or i.stations 1 no_station).messages) k
            ≡ tell_at tell (asked_of (stations_of i) 1) k
        at_second = ap (λ (l : List asked.Message). tell_at tell l k) (of-second sound.stations)

      asked-says : Rows (of AisMessage.Interrogation) asked_table (asked_object line sentence i)
      asked-says =
          heads (of AisMessage.Interrogation) i.message_type i.repeat_indicator i.mmsi refl refl refl
          then least_or_null-says "mmsi1" at.stations 1 (number at.first_mmsi) (first_said mmsi_told sound.stations)
          then least_or_null-says "type1_1" at.first_messages 1 (number at.first_type1) (first_said type_told sound.first ∙ at_first type_told 0)
          then or_null-says "offset1_1" at.first_offset_there1 (number at.first_offset1) (first-offset sound.first ∙ at_first offset_told 0)
          then least_or_null-says "type1_2" at.first_messages 2 (number at.first_type2) (second-said type_told sound.first ∙ at_first type_told 1)
          then or_null-says "offset1_2" at.first_offset_there2 (number at.first_offset2) (second-offset sound.first ∙ at_first offset_told 1)
          then least_or_null-says "mmsi2" at.stations 2 (number at.second_mmsi) (second-said mmsi_told sound.stations)
          then least_or_null-says "type2_1" at.second_messages 1 (number at.second_type1) (first_said type_told sound.second ∙ at_second type_told 0)
          then or_null-says "offset2_1" at.second_offset_there1 (number at.second_offset1) (first-offset sound.second ∙ at_second offset_told 0)
          then least_or_null-says "type2_2" at.second_messages 2 (number at.second_type2) (second-said type_told sound.second ∙ at_second type_told 1)
          then or_null-says "offset2_2" at.second_offset_there2 (number at.second_offset2) (second-offset sound.second ∙ at_second offset_told 1)
          then words_say "}\n"

    -- ---- any type
    content_said : (content : AisMessage) → ContentSound content texts i
        → line_for line (taken complete) sentence (of content) bits ≡ message_object line sentence (of content) bits
    unfolding message_object
    content_said AisMessage.Nothing h = by_kind (of AisMessage.Nothing) 0 0 refl refl (opens (of AisMessage.Nothing) then words_say "}\n")
    content_said (AisMessage.PositionReport p) h =
        by_kind (of (AisMessage.PositionReport p)) 1 (status_number p.navigation_status) refl refl (position-says p h)
    content_said (AisMessage.StaticDataReport r) h = static_said r h.1 r.message_part h.0
    content_said AisMessage.Interrogation h = by_kind (of AisMessage.Interrogation) 3 i.count refl refl (asked-says h)

  pub message-said : (m : Message) → Sound m → line_for line (taken complete) sentence m bits ≡ message_object line sentence m bits
  message-said m h = content_said m.texts m.interrogation m.content h
