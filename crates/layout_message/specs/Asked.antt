-- The thirty-four numbers of an interrogation, type 15. What does not apply is 0.
use Rattle.std.specs.Prelude.{ℕ, List, [], ◌∷◌, ◌++◌, get_or, replicate}
use Rattle.interrogation.specs.Interrogation.{no_message, no_station}
use Rattle.interrogation.specs.declared.Station.{Station}
use Rattle.interrogation.specs.declared.Interrogation.{Interrogation}
use Rattle.layout_numbers.specs.Optional.{there_of, value_of}

-- a station: its number, how many messages are asked of it, and for each the type and the slot offset
abbrev pub station_numbers : Station → List ℕ
station_numbers s =
    let one = get_or s.messages 0 no_message in
    let two = get_or s.messages 1 no_message in
    s.mmsi
    ∷ s.count
    ∷ one.message_type
    ∷ there_of one.slot_offset
    ∷ value_of one.slot_offset
    ∷ two.message_type
    ∷ there_of two.slot_offset
    ∷ value_of two.slot_offset
    ∷ []

-- kind 3, the sender, how many stations are asked, and the two
abbrev pub asked_numbers : Interrogation → List ℕ
asked_numbers i =
    (3 ∷ i.message_type ∷ i.repeat_indicator ∷ i.mmsi ∷ i.count ∷ [])
    ++ (station_numbers (get_or i.stations 0 no_station) ++ (station_numbers (get_or i.stations 1 no_station) ++ replicate 13 0))
