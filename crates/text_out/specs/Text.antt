-- A buffer that is filled from a place on: bytes put one after the other, and none past the buffer's end.
use Rattle.std.specs.Prelude.{ℕ, ◌+◌, List, [], ◌∷◌, length, set, ltb}
use Prim.Native.Char.{code}
use Prim.Native.String.{String, [] as none, ◌∷◌ as ◌then◌}
use Rattle.refusal.specs.Words.{pick}

-- a buffer and the place where the next byte goes
pub record Text : Type 0 where
  pub at : ℕ
  pub bytes : List ℕ

abbrev pub text : ℕ → List ℕ → Text
text at bytes = record { at = at; bytes = bytes }

-- one byte: stored at the place, which moves on; at the buffer's end nothing happens
unfoldable pub put1 : Text → ℕ → Text
put1 t x = pick (ltb t.at (length t.bytes)) (text (t.at + 1) (set t.bytes t.at x)) t

-- a string of bytes, one after the other
unfoldable pub put : Text → List ℕ → Text
put t [] = t
put t (x ∷ s) = put (put1 t x) s

-- a quoted text as bytes
abbrev pub ascii : String → List ℕ
ascii none = []
ascii (c then s) = code c ∷ ascii s
