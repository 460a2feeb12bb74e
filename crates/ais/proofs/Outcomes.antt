-- What a call tells on paper is what one of the code's outcomes tells: each check of document 01's list has the number and the values of a row of its table.
-- Assumes nothing.
use mathlib.Core.Path.{◌≡◌, refl}
use mathlib.Core.Bool.{Bool, true, false}
use mathlib.Core.List.{List, [], ◌∷◌, ◌++◌}
use Prim.Native.Nat.{ℕ}
use Rattle.std.specs.Prelude.{Ok, Err}
use Rattle.refusal.specs.Words.{pick, taken, refused, Check, checked}
use Rattle.refusal.specs.Refusal.{told}
use Rattle.refusal.proofs.Unique.{the_by_number}
use Rattle.sentence.specs.Line.{payload_of, Parsed}
use Rattle.reassembly.specs.Record.{checks_by, onto, join_checks}
use Rattle.reassembly.specs.declared.Part.{Part}
use Rattle.reassembly.specs.declared.Record.{Record}
use Rattle.reassembly.specs.declared.Fragment.{Fragment}
use Rattle.answer.specs.Answer.{Progress, complete, unfinished, outcome_in}
use Rattle.answer.specs.Opening.{message_checks}
use Rattle.answer.specs.declared.Decode.{Decode}
use Rattle.answer.proofs.Unique.{outcome_by}
use Rattle.ais.specs.Call.{fragment_of, part_of_line, handed_of, decodes, line_checks, sentence_checks}

-- each check tells a row of the table
abbrev pub Rows : List Check → Type 0
Rows [] = Unit {0}
Rows (c ∷ cs) = (told {A = Progress} (the_by_number c.number c.values) ≡ refused c.number c.values) × Rows cs

pub rows_both : (before after : List Check) → Rows before → Rows after → Rows (before ++ after)
rows_both [] after p q = q
rows_both (c ∷ before) after p q = (p.0, rows_both before after p.1 q)

message-rows : (handed : List ℕ) (fill : ℕ) → Rows (message_checks handed fill)
message-rows handed fill = (refl, (refl, (refl, (refl, tt))))

join_rows : (part : Part) (o : Record) (f : Fragment) (payload : List ℕ) → Rows (checks_by part o f payload)
join_rows Part.Unfinished o f payload = (refl, (refl, (refl, tt)))
join_rows Part.Last o f payload = (refl, (refl, (refl, tt)))
join_rows Part.Alone o f payload = (refl, tt)

pub line-rows : (line : List ℕ) (room bit_room : ℕ) (p : Parsed) → Rows (line_checks line room bit_room p)
line-rows line room bit_room (Ok s) = (refl, (refl, (refl, (refl, tt))))
line-rows line room bit_room (Err broken) = (refl, (refl, (refl, tt)))

pub sentence-rows : (r : Record) (line : List ℕ) (decode : Decode) (p : Parsed) → Rows (sentence_checks r line decode p)
sentence-rows r line decode (Ok s) =
    let own = payload_of line s in
    rows_both (join_checks r (fragment_of s) own) _ (join_rows (part_of_line s) (onto (part_of_line s) r (fragment_of s)) (fragment_of s) own) (go (decodes decode s))
  where
    go : (t : Bool) → Rows (pick t (message_checks (handed_of r s (payload_of line s)) s.fill_bit_count) [])
    go true = message-rows (handed_of r s (payload_of line s)) s.fill_bit_count
    go false = tt
sentence-rows r line decode (Err broken) = tt

-- so what such checks tell is read back
pub rows_told : (cs : List Check) (p : Progress) → Rows cs → outcome_in (outcome_by (checked cs (taken p))) ≡ checked cs (taken p)
rows_told [] complete h = refl
rows_told [] unfinished h = refl
rows_told (c ∷ cs) p h = go c.fails h.0 (rows_told cs p h.1)
  where
    go : (t : Bool) → told {A = Progress} (the_by_number c.number c.values) ≡ refused c.number c.values
        → outcome_in (outcome_by (checked cs (taken p))) ≡ checked cs (taken p)
        → let all = pick t (refused c.number c.values) (checked cs (taken p)) in outcome_in (outcome_by all) ≡ all
    go true e more = e
    go false e more = more
