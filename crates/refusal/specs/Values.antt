-- A refusal's values as the code gives them.
use Rattle.std.specs.Prelude.{ℕ, ◌≡◌, List, eqb, length, get_or}
use Rattle.refusal.specs.Words.{pick}
use Rattle.refusal.specs.declared.Values.{Values}

-- what is "Also returned": how many values there are, the first and the second, each 0 where there is none. No refusal of document 01 returns more than two
pub record Returned (values : List ℕ) (r : Values) : Type 0 where
  pub count : r.count ≡ length values
  pub first : r.first ≡ get_or values 0 0
  pub second : r.second ≡ get_or values 1 0

-- how many of them there are, by the refusal's number alone: document 01's column "Also returned" (proofs/Unique holds it to the table)
abbrev pub count_by : ℕ → ℕ
count_by n = pick (eqb n 3) 2 (pick (eqb n 8) 1 (pick (eqb n 10) 1 (pick (eqb n 11) 1 0)))
