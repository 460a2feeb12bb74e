-- What it is for bytes that are put to stand whole, none of them left out at the buffer's end.
use Rattle.std.specs.Prelude.{ℕ, ◌+◌, ◌≡◌, List, length, take, drop}
use Rattle.text_out.specs.Text.{Text}

-- the bytes s stand at a place of a buffer, the place after them is told, and the other bytes are as they were
pub record Whole (at : ℕ) (bytes s : List ℕ) (t : Text) : Type 0 where
  pub place : t.at ≡ at + length s
  pub stands : take (length s) (drop at t.bytes) ≡ s
  pub before : take at t.bytes ≡ take at bytes
  pub after : drop (at + length s) t.bytes ≡ drop (at + length s) bytes
