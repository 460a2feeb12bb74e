-- How the comparing protocol shows what a call gives back: a refusal, the bytes that it filled, and whether the lent bytes beyond them are untouched.
use Rattle.std.specs.Prelude.{ℕ, Bool, true, ◌&&◌, List, [], ◌∷◌, ◌++◌, length, get_or, take, drop, replicate, eqb}
use Rattle.refusal.specs.Words.{pick, Told, taken, refused}
use Rattle.refusal.specs.Refusal.{Row}
use Rattle.text_out.specs.Text.{ascii}
use Rattle.face_values.specs.Quoted.{shown_in}
use Rattle.face_rows.specs.Rows.{printed}
use Rattle.trace_show.specs.Tables.{refusal_table}

-- the layout of a refusal alone: its values, its number and their count at their places in an answer's layout, zeros for the rest
abbrev pub refusal_numbers : Row → List ℕ
refusal_numbers r = get_or r.values 0 0 ∷ get_or r.values 1 0 ∷ (replicate 50 0 ++ r.number ∷ length r.values ∷ [])

-- "A refusal: `refused N` and its values in document 01's order"
unfoldable pub refusal_shown : Row → List ℕ
refusal_shown r = printed refusal_table (refusal_numbers r) []

-- "Every lent buffer is filled with the byte 170 before the call": of these bytes, as many as are lent
unfoldable pub lent_bytes : List ℕ
lent_bytes = replicate 1024 170

-- whether each byte is as it was lent
unfoldable pub untouched_in : List ℕ → Bool
untouched_in [] = true
untouched_in (x ∷ s) = eqb x 170 && untouched_in s

-- "KEPT is `kept` where every lent byte beyond what was handed out is still 170, else `spoilt`"
abbrev pub kept_shown : Bool → List ℕ
kept_shown kept = pick kept (ascii " ; kept") (ascii " ; spoilt")

-- a call that fills a lent buffer, which is shown as it is afterwards: a word and the bytes handed out, or the refusal; then KEPT
abbrev pub fill_shown : List ℕ → Told ℕ → List ℕ → List ℕ
fill_shown word (taken n) lent = word ++ (shown_in (take n lent) ++ kept_shown (untouched_in (drop n lent)))
fill_shown word (refused n values) lent = refusal_shown (record { number = n; values = values }) ++ kept_shown (untouched_in lent)
