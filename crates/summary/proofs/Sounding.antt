-- Seven lines counted and told, computed from the definitions. Assumes nothing.
use Prim.Native.Nat.{ℕ}
use mathlib.Core.Path.{◌≡◌, refl}
use mathlib.Core.List.{List, [], ◌∷◌, ◌++◌}
use lib.ListN.{replicate}
use Rattle.text_out.specs.Text.{ascii}
use Rattle.text_out.specs.Digits.{decimal_in}
use Rattle.face_rows.specs.Rows.{printed_from}
use Rattle.summary.specs.Tally.{another_kind, bumped, counted_of}
use Rattle.summary.specs.Summary.{summary_of}

-- lines by their codes and types
abbrev counted : List (ℕ × ℕ) → List ℕ → List ℕ
counted [] tally = tally
counted (l ∷ ls) tally = counted ls (counted_of tally l.0 l.1)

-- two of type 1, one of type 24, an unfinished one, two refused with 2, of which one is of another kind, and one refused with 3
abbrev tally : List ℕ
tally = bumped (counted ((0, 1) ∷ (0, 1) ∷ (0, 24) ∷ (100, 0) ∷ (2, 0) ∷ (2, 0) ∷ (3, 0) ∷ []) (replicate 256 0)) another_kind

pub seven : summary_of tally
    ≡ ascii "lines: 7\ntype 1: 2\ntype 24: 1\nunfinished: 1\nrefused 2, line breaks the line rules: 2\n"
    ++ ascii "  of these NMEA sentences of another kind: 1\nrefused 3, checksum differs: 1\n"
unfolding bumped counted_of summary_of printed_from decimal_in
seven = refl
