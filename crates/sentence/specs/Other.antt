-- A well-formed NMEA 0183 sentence of another kind than ours: its first field is not an AIS one, its checksum is right and ends the line.
-- What stands in quotes is the AIVDM description, "AIVDM/AIVDO Sentence Layer".
use Rattle.std.specs.Prelude.{ℕ, ◌+◌, List, [], ◌∷◌, Bool, true, false, not, ◌&&◌, ◌||◌, ltb, leb, eqb, length, get_or, take, drop}
use Rattle.refusal.specs.Words.{pick, within}
use Rattle.scan.specs.Rule.{read, bad, on_read, Rule, ◌>>=◌, ◌>>◌, gives, fails, here, skip}
use Rattle.scan.specs.Scan.{comma, star, byte, before, first_at, up_to, hex, sum_to_star}
use Rattle.sentence.specs.Line.{is, tag_block, start_mark}

-- a carriage return
abbrev pub cr : ℕ
cr = 13

-- a digit (48 to 57) or a capital letter (65 to 90)
unfoldable pub is_plain : ℕ → Bool
is_plain b = within 48 57 b || within 65 90 b

-- every one of some bytes is
unfoldable pub all_plain : List ℕ → Bool
all_plain [] = true
all_plain (b ∷ bs) = is_plain b && all_plain bs

-- "Field 1, !AIVDM, identifies this as an AIVDM packet": ours are two characters and then VDM or VDO
unfoldable pub is_ours : List ℕ → Bool
is_ours name = eqb (length name) 5 && is (get_or name 2 0) (get_or name 3 0) 86 68 && (eqb (get_or name 4 0) 77 || eqb (get_or name 4 0) 79)

-- a first field of another kind: not empty, of digits and capital letters alone, and not ours
unfoldable pub is_anothers : List ℕ → Bool
is_anothers name = ltb 0 (length name) && all_plain name && not (is_ours name)

-- such a field, up to a comma
unfoldable pub anothers_name : Rule Unit
anothers_name s at =
    pick (ltb (first_at comma s at) (length s) && is_anothers (take (before comma (drop at s)) (drop at s))) (read tt (first_at comma s at + 1)) (bad at)

-- hex digits of either case, exactly two
unfoldable pub two_digits : Rule ℕ
two_digits = do
  first ← here
  v ← hex
  next ← here
  pick (eqb next (first + 2)) (gives v) (fails first)

-- nothing more, or a lone carriage return: the line's CR LF is cut off before
unfoldable pub ending : Rule Unit
ending = do
  skip (byte cr)
  λ s at. pick (leb (length s) at) (read tt at) (bad at)

-- what stands after the first field: "The *-separated suffix (*5C) is the NMEA 0183 data-integrity checksum for the sentence". Whether it is the one found.
-- No star stands in the first field, so the first one after it is the first of the sentence
unfoldable pub suffix : ℕ → Rule Bool
suffix found = do
  up_to star
  given ← two_digits
  ending
  gives (eqb given found)

-- a line: a tag block skipped and a start mark, as document 01's line rules have them; the checksum found, "computed on the entire sentence including
-- the AIVDM tag but excluding the leading "!""; a first field of another kind; the suffix
unfoldable pub other : Rule Bool
other = do
  tag_block
  start_mark
  found ← sum_to_star
  anothers_name
  suffix found

unfoldable pub other_sentence : List ℕ → Bool
other_sentence s = on_read (other s 0) (λ right _. right) (λ _. false)
