-- A rate of turn from the bit pattern of its single-precision number (IEEE 754), with nine digits after the point: enough that every rate of a report
-- reads back to the same number (json_told/proofs/ReadsBack).
use Rattle.std.specs.Prelude.{ℕ, ◌+◌, ◌-◌, ◌*◌, ◌/◌, ◌%◌, ◌^◌, List, ◌∷◌, ◌++◌, ltb}
use Rattle.refusal.specs.Words.{pick}
use Rattle.text_out.specs.Text.{ascii}
use Rattle.text_out.specs.Digits.{decimal_of}
use Rattle.face_values.specs.Point.{nine_digits}

-- the patterns from 0 up to the last number below 2 ^ 24: no sign, and an exponent of at most 150. All rates are among them
abbrev pub patterns : ℕ
patterns = 151 * 2 ^ 23

-- such a pattern stands for significand / 2 ^ shift; below the exponent 1 the significand has no leading one
abbrev pub significand_of : ℕ → ℕ
significand_of p = pick (ltb p (2 ^ 23)) (p * 2) (2 ^ 23 + p % 2 ^ 23)

abbrev pub shift_of : ℕ → ℕ
shift_of p = 150 - p / 2 ^ 23

-- the nearest whole count of 10 ^ -9
unfoldable pub billionths_of : ℕ → ℕ
billionths_of p = (significand_of p * (2 * 10 ^ 9) + 2 ^ shift_of p) / 2 ^ (shift_of p + 1)

-- a count of 10 ^ -9
abbrev pub fixed_nine : ℕ → List ℕ
fixed_nine n = decimal_of (n / 10 ^ 9) ++ 46 ∷ nine_digits n

-- what no rate has is null: a sign, 2 ^ 24 or more, or no number at all
unfoldable pub rate_in : ℕ → List ℕ
rate_in p = pick (ltb p patterns) (fixed_nine (billionths_of p)) (ascii "null")
