-- `lines::last` meets its contract. Assumes nothing.
use Prim.Native.Nat.{ℕ}
use mathlib.Core.Path.{ap, ◌∙◌}
use mathlib.Core.List.{List}
use borrow.Author.Tests.{lt-ltb, le-ltb, eq-eqb, ne_eqb}
use Rattle.lines.specs.Held.{held_of}
use Rattle.lines.specs.Collect.{event_of, last_of}
use Rattle.lines.proofs.Keeping.{held_cap}
use Rattle.lines.proofs.last.Goals as goal

pub returns-then-line-m : goal.returns-then-line-m
unfolding last_of
returns-then-line-m c = rw (lt-ltb _ _ c.if-line-m.true)

pub returns-then-state-eq0 : goal.returns-then-state-eq0
unfolding last_of
returns-then-state-eq0 c = rw (le-ltb _ _ c.if-line-m.false, eq-eqb _ _ c.if-state-eq0.true)

pub returns : goal.returns
unfolding last_of
returns c =
    rw (le-ltb _ _ c.if-line-m.false, ne_eqb _ _ c.if-state-eq0.false)
    (c.ended.ensures ∙ ap (λ (h : List ℕ). event_of c.args.most c.args.strip h 0)
    (ap (λ (n : ℕ). held_of c.args.most n c.args.line.now) c.min.ensures
    ∙ held_cap c.args.most c.args.state.len c.args.line.now c.if-line-m.false))
