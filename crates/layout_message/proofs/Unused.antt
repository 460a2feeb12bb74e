-- A list's unused place has no numbers; the numbers of an interrogation, put together. Assumes nothing.
use mathlib.Core.Path.{◌≡◌, refl, ◌∙◌}
use mathlib.Core.List.{List, [], ◌∷◌, ◌++◌}
use Prim.Native.Nat.{ℕ, zero, suc}
use lib.ListN.{get_or, replicate}
use Rattle.interrogation.specs.Interrogation.{no_station}
use Rattle.interrogation.specs.declared.Station.{Station}
use Rattle.interrogation.specs.declared.Interrogation.{Interrogation}
use Rattle.text_out.specs.Text.{Text, put}
use Rattle.layout_message.specs.Asked.{station_numbers, asked_numbers}

-- whatever a read past the end of the list would give, its numbers are 0
pub none_alike : (l : List Station) (k : ℕ) → station_numbers (get_or l k (record { mmsi = 0; messages = []; count = 0 })) ≡ station_numbers (get_or l k no_station)
none_alike [] k = refl
none_alike (x ∷ l) zero = refl
none_alike (x ∷ l) (suc k) = none_alike l k

-- the sender's numbers and those of the two stations, put together
pub together : (x : Text) {y : Text} (i : Interrogation) {one two : List ℕ}
    → y ≡ put x ((3 ∷ i.message_type ∷ i.repeat_indicator ∷ i.mmsi ∷ i.count ∷ []) ++ (one ++ (two ++ replicate 13 0)))
    → one ≡ station_numbers (get_or i.stations 0 no_station) → two ≡ station_numbers (get_or i.stations 1 no_station) → y ≡ put x (asked_numbers i)
together x i p e d = p ∙ rw (e, d)
