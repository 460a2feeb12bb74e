-- What a collector keeps of a line that is not yet ended: a number, and bytes first in its buffer.
use Rattle.std.specs.Prelude.{ℕ, ◌+◌, ◌≤◌, ◌<◌, ◌≡◌, ◌&&◌, List, [], ◌∷◌, ◌++◌, length, take, get_or, eqb, leb}
use Rattle.refusal.specs.Words.{pick, over}

-- the number kept of a line h of at most m bytes: its length; m + 1 for m bytes and a CR, from which one may go; m + 2 for one that is too long whatever comes
unfoldable pub count_of : ℕ → List ℕ → ℕ
count_of m h = pick (leb (length h) m) (length h) (pick (eqb (length h) (m + 1) && eqb (get_or h m 0) 13) (m + 1) (m + 2))

-- the buffer with the first m bytes of h standing first; the further bytes stay
unfoldable pub keep : ℕ → List ℕ → List ℕ → List ℕ
keep m h buf = over (take m h) buf

-- both
pub record Kept : Type 0 where
  pub len : ℕ
  pub line : List ℕ

abbrev pub kept_of : ℕ → List ℕ → List ℕ → Kept
kept_of m h buf = record { len = count_of m h; line = keep m h buf }

-- the line that a number and a buffer stand for; a line that is too long is stood for by m + 2 bytes
unfoldable pub held_of : ℕ → ℕ → List ℕ → List ℕ
held_of m n buf = take n (take m buf ++ 13 ∷ 0 ∷ [])

-- what the inner functions of the code ask of a number and a buffer
pub record Within (m n : ℕ) (buf : List ℕ) : Type 0 where
  pub small : m < 65536
  pub room : m ≤ length buf
  pub few : n ≤ m + 2

-- a collector of n over the buffer buf holds the bytes h
pub record Holds (m : ℕ) (h : List ℕ) (n : ℕ) (buf : List ℕ) : Type 0 where
  pub counts : n ≡ count_of m h
  pub stands : keep m h buf ≡ buf
  pub room : m ≤ length buf
