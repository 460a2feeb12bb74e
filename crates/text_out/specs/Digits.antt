-- Numbers and bytes as text, in ASCII.
use Rattle.std.specs.Prelude.{ℕ, zero, suc, ◌+◌, ◌/◌, ◌%◌, List, [], ◌∷◌, ◌++◌, ltb}
use Rattle.refusal.specs.Words.{pick}

-- the digit of a number below 16: `0` to `9` (48 on), then `a` to `f` (97 on)
abbrev pub glyph : ℕ → ℕ
glyph d = pick (ltb d 10) (48 + d) (87 + d)

-- bytes as pairs of hex digits, the high half of a byte first
unfoldable pub hex_of : List ℕ → List ℕ
hex_of [] = []
hex_of (b ∷ s) = glyph (b / 16) ∷ glyph (b % 16) ∷ hex_of s

-- a number of 32 bits as eight hex digits: its four bytes, the highest first
abbrev pub word_of : ℕ → List ℕ
word_of n = hex_of (n / 16777216 % 256 ∷ n / 65536 % 256 ∷ n / 256 % 256 ∷ n % 256 ∷ [])

-- the decimal digits of n, no leading zeros; at most k of them
unfoldable pub decimal_in : ℕ → ℕ → List ℕ
decimal_in zero n = []
decimal_in (suc k) n = pick (ltb 9 n) (decimal_in k (n / 10) ++ glyph (n % 10) ∷ []) (glyph n ∷ [])

-- a number of 64 bits has at most 20
abbrev pub decimal_of : ℕ → List ℕ
decimal_of n = decimal_in 20 n
