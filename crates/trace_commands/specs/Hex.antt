-- Bytes, as a command has them: one or more pairs of lower-case hex digits, or `-` for no bytes.
use Rattle.std.specs.Prelude.{ℕ, ◌+◌, ◌*◌, ◌/◌, ◌%◌, ◌≡◌, Bool, true, ◌&&◌, List, [], ◌∷◌, length, eqb, leb, ltb, Option, Some, None}
use Rattle.refusal.specs.Words.{pick, over}
use Rattle.text_out.specs.Text.{ascii}
use Rattle.lines.specs.Same.{same_as}
use Rattle.trace_commands.specs.Numbers.{digit_of}

-- whether each byte is a hex digit
unfoldable pub all_hex : List ℕ → Bool
all_hex [] = true
all_hex (x ∷ s) = ltb (digit_of x) 16 && all_hex s

-- the bytes that pairs of hex digits write, the high half of a byte first
unfoldable pub bytes_of : List ℕ → List ℕ
bytes_of [] = []
bytes_of (x ∷ []) = []
bytes_of (x ∷ y ∷ s) = (digit_of x * 16 + digit_of y) ∷ bytes_of s

-- one or more pairs of hex digits
abbrev pub pairs_of : List ℕ → Bool
pairs_of w = ltb 0 (length w) && (eqb (length w % 2) 0 && all_hex w)

-- whether a word's bytes can be read into `room` bytes
abbrev pub readable : List ℕ → ℕ → Bool
readable w room = pairs_of w && leb (length w / 2) room

-- what is answered for a word: how many bytes it has
unfoldable pub filled_of : List ℕ → ℕ → Option ℕ
filled_of w room = pick (same_as w (ascii "-")) (Some 0) (pick (readable w room) (Some (length w / 2)) None)

-- the buffer afterwards: the bytes stand first; a word that is not read, and `-`, leave it as it was
unfoldable pub left_of : List ℕ → List ℕ → List ℕ
left_of w buffer = pick (readable w (length buffer)) (over (bytes_of w) buffer) buffer

-- the answer for a word and the buffer after the call
pub record Fills (w buffer : List ℕ) (r : Option ℕ) (after : List ℕ) : Type 0 where
  pub answers : r ≡ filled_of w (length buffer)
  pub leaves : after ≡ left_of w buffer
