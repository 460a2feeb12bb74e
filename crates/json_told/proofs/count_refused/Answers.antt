-- `json_told::count_refused` meets its contract. Assumes nothing.
use Prim.Native.Nat.{ℕ}
use mathlib.Core.Path.{ap, ◌∙◌}
use mathlib.Core.List.{List}
use Rattle.summary.specs.Tally.{another_kind, bumped}
use Rattle.json_told.proofs.count_refused.Goals as goal

pub returns-then-other : goal.returns-then-other
returns-then-other c =
    rw c.if-other.true
    (c.count_other.ensures
    ∙ ap (λ (t : List ℕ). bumped t another_kind) c.count.ensures)

pub returns-else-other : goal.returns-else-other
returns-else-other c = rw c.if-other.false c.count.ensures
