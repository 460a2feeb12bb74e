-- Document 01's table of refusals.
use Rattle.std.specs.Prelude.{List, [], ◌∷◌, ℕ}
use Rattle.refusal.specs.Words.{Told, refused}
use Rattle.refusal.specs.declared.Refusal.{Refusal}
use Rattle.refusal.specs.declared.Refusal.TheVariants.{LineTooLong, Line, Checksum, MessageNumber, FragmentNumber, PayloadTooLong, Fill, Armour}
use Rattle.refusal.specs.declared.Refusal.TheVariants.{Short, OtherType, UnknownType, Room, Request}

-- a row of the table: the number, and what is also returned
pub record Row : Type 0 where
  pub number : ℕ
  pub values : List ℕ

abbrev row : ℕ → List ℕ → Row
row number values = record { number = number; values = values }

-- document 01, 'Refusal numbers', row by row
abbrev pub row_of : Refusal → Row
row_of LineTooLong = row 1 []
row_of Line = row 2 []
row_of (Checksum expected found) = row 3 (expected ∷ found ∷ [])
row_of MessageNumber = row 4 []
row_of FragmentNumber = row 5 []
row_of PayloadTooLong = row 6 []
row_of Fill = row 7 []
row_of (Armour offset) = row 8 (offset ∷ [])
row_of Short = row 9 []
row_of (OtherType n) = row 10 (n ∷ [])
row_of (UnknownType n) = row 11 (n ∷ [])
row_of Room = row 12 []
row_of Request = row 13 []

-- a refusal on paper
abbrev pub told : {A : Type 0} → Refusal → Told A
told r = refused (row_of r).number (row_of r).values
