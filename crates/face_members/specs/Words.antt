-- What the numbers of some fields mean, in the words of the AIVDM description's tables.
use Rattle.std.specs.Prelude.{ℕ, List, [], ◌∷◌, ◌++◌, ltb, get_or, replicate}
use Prim.Native.String.{String}
use Rattle.refusal.specs.Words.{pick}
use Rattle.text_out.specs.Text.{ascii}

-- 'Navigation Status', from 0 on; 15 is "Not defined"
abbrev pub statuses : List String
statuses =
    "Under way using engine"
    ∷ "At anchor"
    ∷ "Not under command"
    ∷ "Restricted manoeuverability"
    ∷ "Constrained by her draught"
    ∷ "Moored"
    ∷ "Aground"
    ∷ "Engaged in Fishing"
    ∷ "Under way sailing"
    ∷ "Reserved for future amendment of Navigational Status for HSC"
    ∷ "Reserved for future amendment of Navigational Status for WIG"
    ∷ "Reserved for future use"
    ∷ "Reserved for future use"
    ∷ "Reserved for future use"
    ∷ "AIS-SART is active"
    ∷ []

-- 'Codes for Ship Type', 30 to 39
abbrev pub thirties : List String
thirties =
    "Fishing"
    ∷ "Towing"
    ∷ "Towing: length exceeds 200m or breadth exceeds 25m"
    ∷ "Dredging or underwater ops"
    ∷ "Diving ops"
    ∷ "Military ops"
    ∷ "Sailing"
    ∷ "Pleasure Craft"
    ∷ "Reserved"
    ∷ "Reserved"
    ∷ []

-- the same, 50 to 59
abbrev pub fifties : List String
fifties =
    "Pilot Vessel"
    ∷ "Search and Rescue vessel"
    ∷ "Tug"
    ∷ "Port Tender"
    ∷ "Anti-pollution equipment"
    ∷ "Law Enforcement"
    ∷ "Spare - Local Vessel"
    ∷ "Spare - Local Vessel"
    ∷ "Medical Transport"
    ∷ "Noncombatant ship according to RR Resolution No. 18"
    ∷ []

-- words as bytes
abbrev pub spelt : List String → List (List ℕ)
spelt [] = []
spelt (w ∷ l) = ascii w ∷ spelt l

-- a status in quotes; from 15 on there is none
abbrev pub status_word : ℕ → List ℕ
status_word n = pick (ltb n 15) (ascii "\"" ++ get_or (spelt statuses) n [] ++ ascii "\"") (ascii "null")

-- a name before each of some words
abbrev pub named : String → List String → List (List ℕ)
named name [] = []
named name (w ∷ l) = (ascii name ++ ascii w) ∷ named name l

-- the kinds of ship with ten types each: what five of these have after the kind's name
abbrev pub hazards : List String
hazards =
    ", all ships of this type"
    ∷ ", Hazardous category A"
    ∷ ", Hazardous category B"
    ∷ ", Hazardous category C"
    ∷ ", Hazardous category D"
    ∷ []

-- and the next four
abbrev pub reserved : List String
reserved = ", Reserved for future use" ∷ []

abbrev pub kind_of : String → String → List (List ℕ)
kind_of name last = named name (hazards ++ reserved ++ reserved ++ reserved ++ reserved ++ last ∷ [])

-- 'Codes for Ship Type', 0 to 99
abbrev pub ship_types : List (List ℕ)
ship_types =
    ascii "Not available (default)"
    ∷ replicate 19 (ascii "Reserved for future use")
    ++ kind_of "Wing in ground (WIG)" ", Reserved for future use"
    ++ spelt thirties
    ++ kind_of "High speed craft (HSC)" ", No additional information"
    ++ spelt fifties
    ++ kind_of "Passenger" ", No additional information"
    ++ kind_of "Cargo" ", No additional information"
    ++ kind_of "Tanker" ", No additional information"
    ++ kind_of "Other Type" ", no additional information"
