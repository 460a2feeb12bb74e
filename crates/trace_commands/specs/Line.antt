-- The words of a command line: what stands between single spaces.
use Rattle.std.specs.Prelude.{ℕ, zero, suc, ◌+◌, List, [], ◌∷◌, eqb}
use Rattle.refusal.specs.Words.{pick}

-- word k of a line, from 0 on, cut at each space (32); nothing where the line has fewer
unfoldable pub word_at : ℕ → List ℕ → List ℕ
word_at k [] = []
word_at zero (x ∷ s) = pick (eqb x 32) [] (x ∷ word_at zero s)
word_at (suc k) (x ∷ s) = pick (eqb x 32) (word_at k s) (word_at (suc k) s)

-- how many words a line has: one more than it has spaces
unfoldable pub count_of : List ℕ → ℕ
count_of [] = 1
count_of (x ∷ s) = pick (eqb x 32) (count_of s + 1) (count_of s)
