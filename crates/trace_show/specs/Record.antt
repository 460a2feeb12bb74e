-- The reassembly record as the comparing protocol shows it: "`ID FRAGMENT LENGTH BYTES`".
use Rattle.std.specs.Prelude.{ℕ, ◌&&◌, List, [], ◌∷◌, ◌++◌, length, eqb, Option, Some, None}
use Rattle.refusal.specs.Words.{pick}
use Rattle.reassembly.specs.declared.Record.{Record}
use Rattle.text_out.specs.Text.{ascii}
use Rattle.text_out.specs.Digits.{decimal_of}
use Rattle.face_values.specs.Quoted.{shown_in}

-- "Words are separated by one space": a number after its space (32)
abbrev pub number : ℕ → List ℕ
number v = 32 ∷ decimal_of v

-- "ID is the message number or `-`"
abbrev pub id_shown : Option ℕ → List ℕ
id_shown None = ascii " -"
id_shown (Some n) = number n

-- "with the zeros at the end left off"
unfoldable pub trimmed : List ℕ → List ℕ
trimmed [] = []
trimmed (x ∷ s) = pick (eqb (length (trimmed s)) 0 && eqb x 0) [] (x ∷ trimmed s)

-- "then the record, its 384 bytes with the zeros at the end left off"
abbrev pub record_shown : Record → List ℕ
record_shown r = id_shown r.message_id ++ number r.fragment_number ++ number r.len ++ (32 ∷ shown_in (trimmed r.bytes))
