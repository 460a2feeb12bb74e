-- Values with a decimal point. What stands in quotes is RFC 8259.
use Rattle.std.specs.Prelude.{ℕ, ◌+◌, ◌*◌, ◌/◌, ◌%◌, ◌^◌, List, [], ◌∷◌, ◌++◌}
use Rattle.text_out.specs.Digits.{decimal_of}
use Rattle.face_values.specs.Signed.{size_in, sign_in}

-- "A fraction part is a decimal point followed by one or more digits." A count of tenths has one, and nothing is lost: 3601 is 360.1
abbrev pub tenths_in : ℕ → List ℕ
tenths_in n = decimal_of (n / 10) ++ 46 ∷ decimal_of (n % 10)

-- the last six digits of n, from `0` (48) on
abbrev pub six_digits : ℕ → List ℕ
six_digits n =
    (48 + n / 100000 % 10)
    ∷ (48 + n / 10000 % 10)
    ∷ (48 + n / 1000 % 10)
    ∷ (48 + n / 100 % 10)
    ∷ (48 + n / 10 % 10)
    ∷ (48 + n % 10)
    ∷ []

-- the last nine of them
abbrev pub nine_digits : ℕ → List ℕ
nine_digits n = (48 + n / 100000000 % 10) ∷ (48 + n / 10000000 % 10) ∷ (48 + n / 1000000 % 10) ∷ six_digits n

-- a count of millionths
abbrev pub fixed : ℕ → List ℕ
fixed n = decimal_of (n / 1000000) ++ 46 ∷ six_digits n

-- a position is a count of 1/600000 degrees, or 5/3 millionths of a degree: the nearest whole count of those. No position has more than 32 bits
abbrev pub millionths : ℕ → ℕ
millionths m = (m % 2 ^ 32 * 5 + 1) / 3

abbrev pub degrees_in : ℕ → List ℕ
degrees_in n = sign_in n ++ fixed (millionths (size_in n))
