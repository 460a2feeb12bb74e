-- What unarmoring alone answers, and what it leaves in the output.
use Rattle.std.specs.Prelude.{◌≡◌, Result, Ok, Err, Bool, ◌&&◌, ◌||◌, List, [], ◌∷◌, ℕ, ltb, eqb, length}
use Rattle.refusal.specs.Words.{Told, taken, Check, check, checked, left}
use Rattle.refusal.specs.Refusal.{told}
use Rattle.armour.specs.Armour.{first_bad, size, unarmored}
use Rattle.refusal.specs.declared.Refusal.{Refusal}

-- the answer on paper: the output's length, or document 01's number and values
abbrev pub unarmored_in : Result ℕ Refusal → Told ℕ
unarmored_in (Ok n) = taken n
unarmored_in (Err r) = told r

-- 7: "fill over 5, or fill with empty data"
unfoldable pub bad_fill : List ℕ → ℕ → Bool
bad_fill s fill = ltb 5 fill || (eqb (length s) 0 && ltb 0 fill)

-- 6: "payload, alone or joined, over 384 bytes"
abbrev pub too_long : List ℕ → Bool
too_long s = ltb 384 (length s)

-- 12: "room under the output length"
abbrev pub no_room : List ℕ → ℕ → Bool
no_room s room = ltb room (size (length s))

-- 8: "byte cannot be unarmored"
abbrev pub no_armour : List ℕ → Bool
no_armour s = ltb (first_bad s) (length s)

-- "Unarmoring alone: 7, 6, 12 (room under the output length), 8" (document 01, 'Refusal numbers')
abbrev pub checks_of : List ℕ → ℕ → ℕ → List Check
checks_of s fill room =
    check (bad_fill s fill) 7 []
    ∷ check (too_long s) 6 []
    ∷ check (no_room s room) 12 []
    ∷ check (no_armour s) 8 (first_bad s ∷ [])
    ∷ []

unfoldable pub answer_of : List ℕ → ℕ → ℕ → Told ℕ
answer_of s fill room = checked (checks_of s fill room) (taken (size (length s)))

-- the promise: the answer and every lent byte
pub record Unarmors (s : List ℕ) (fill : ℕ) (out : List ℕ) (r : Result ℕ Refusal) (out' : List ℕ) : Type 0 where
  pub answers : unarmored_in r ≡ answer_of s fill (length out)
  pub leaves : out' ≡ left (answer_of s fill (length out)) (unarmored s fill) out
