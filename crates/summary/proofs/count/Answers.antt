-- `count` meets its contract: each way out. Assumes nothing.
use mathlib.Core.Path.{◌∙◌, ap}
use mathlib.Core.List.{List}
use Prim.Native.Nat.{ℕ, ◌+◌}
use borrow.Author.Tests.{eq-eqb, ne_eqb, lt-ltb, le-ltb, le-leb, lt-leb}
use Rattle.summary.specs.Tally.{types, bumped, counted_of}
use Rattle.summary.proofs.count.Goals as goal

pub returns-then-kind-lt64 : goal.returns-then-kind-lt64
unfolding counted_of
returns-then-kind-lt64 c =
    rw (eq-eqb _ _ c.if-code-eq0.true, lt-ltb _ _ c.if-kind-lt64.true)
    (c.bump-then-kind-lt64.ensures ∙ ap (λ (l : List ℕ). bumped l (types + c.args.kind)) c.bump.ensures)

pub returns-else-kind-lt64 : goal.returns-else-kind-lt64
unfolding counted_of
returns-else-kind-lt64 c = rw (eq-eqb _ _ c.if-code-eq0.true, le-ltb _ _ c.if-kind-lt64.false) c.bump.ensures

pub returns-then-code-le100 : goal.returns-then-code-le100
unfolding counted_of
returns-then-code-le100 c =
    rw (ne_eqb _ _ c.if-code-eq0.false, le-leb _ _ c.if-code-le100.true)
    (c.bump-then-code-le100.ensures ∙ ap (λ (l : List ℕ). bumped l c.args.code) c.bump.ensures)

pub returns-else-code-le100 : goal.returns-else-code-le100
unfolding counted_of
returns-else-code-le100 c = rw (ne_eqb _ _ c.if-code-eq0.false, lt-leb _ _ c.if-code-le100.false) c.bump.ensures
