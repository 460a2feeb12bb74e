-- Decimals, as a command has them: one or more digits, leading zeros allowed, of a number of 64 bits.
use Rattle.std.specs.Prelude.{ℕ, ◌+◌, ◌-◌, ◌*◌, ◌^◌, ◌&&◌, List, [], ◌∷◌, length, eqb, ltb, Option, Some, None}
use Rattle.refusal.specs.Words.{pick, within}

-- a byte's value as a digit: `0` to `9` (48 to 57), and for hex `a` to `f` (97 to 102); 16 where it is none
abbrev pub digit_of : ℕ → ℕ
digit_of x = pick (within 48 57 x) (x - 48) (pick (within 97 102 x) (x - 87) 16)

-- what v and digits after it say, if each is decimal and the number is below 2 ^ 64
unfoldable pub number_from : ℕ → List ℕ → Option ℕ
number_from v [] = Some v
number_from v (x ∷ s) = pick (ltb (digit_of x) 10 && ltb (v * 10 + digit_of x) (2 ^ 64)) (number_from (v * 10 + digit_of x) s) None

-- what a word says
unfoldable pub number_of : List ℕ → Option ℕ
number_of w = pick (eqb (length w) 0) None (number_from 0 w)
