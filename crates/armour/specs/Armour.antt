-- Payload armour, from the AIVDM description, 'AIVDM/AIVDO Payload Armoring': "Each character represents six bits of data".
use Rattle.std.specs.Prelude.{Option, Some, None, List, [], ◌∷◌, map, ℕ, suc, ◌+◌, ◌-◌, ◌*◌, ◌/◌, ltb, length, get_or}
use Rattle.refusal.specs.Words.{pick, within}
use Rattle.parsers.specs.Bits.{bit_at, cut, pack}

-- its table: `0` to `W` (48 to 87) are 0 to 39, and the backtick to `w` (96 to 119) are 40 to 63; "the intermediate range "X" (88) to "_" (95) is not used".
-- 64, which is no six bits, stands for every byte that the table has not
unfoldable pub meaning : ℕ → ℕ
meaning b = pick (within 48 87 b) (b - 48) (pick (within 96 119 b) (b - 56) 64)

-- "The true type is the six-bit value of the first byte of the payload handed out, absent if that byte is not armour" (document 01, 'Line rules')
abbrev pub the_true_type : List ℕ → Option ℕ
the_true_type payload = let v = meaning (get_or payload 0 0) in pick (ltb v 64) (Some v) None

-- the way back: the character of a six-bit value
abbrev pub letter : ℕ → ℕ
letter v = pick (ltb v 40) (v + 48) (v + 56)

-- "the lowest offset that holds such a byte" (document 01, refusal 8); the length where there is none
abbrev pub first_bad : List ℕ → ℕ
first_bad [] = 0
first_bad (b ∷ s) = pick (ltb (meaning b) 64) (suc (first_bad s)) 0

-- "Six-bit values are joined, highest bit first. The last fill bits become 0, and zeros pad" (document 01, 'Unarmoring')
unfoldable pub stream : List ℕ → ℕ → ℕ → ℕ
stream s fill = cut (length s * 6 - fill) (bit_at 6 (map meaning s))

-- "The output length is 6n/8 rounded up, with fill not shortening it"
abbrev pub size : ℕ → ℕ
size n = (n * 6 + 7) / 8

-- the bits of a payload, cut into whole bytes
abbrev pub unarmored : List ℕ → ℕ → List ℕ
unarmored s fill = pack 8 (size (length s)) (stream s fill)
