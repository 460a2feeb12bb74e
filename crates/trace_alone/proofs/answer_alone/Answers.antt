-- `trace_alone::answer_alone` meets its contract. Assumes nothing.
use mathlib.Core.Path.{sym, ◌∙◌}
use Rattle.trace_alone.specs.Alone.{alone_said}
use Rattle.trace_alone.proofs.answer_alone.Goals as goal

pub returns-then-named : goal.returns-then-named
unfolding alone_said
returns-then-named c = rw (sym c.named.ensures ∙ c.if-named.true) c.say_unarmor.ensures

pub returns-then-named-2 : goal.returns-then-named-2
unfolding alone_said
returns-then-named-2 c =
    rw (
      sym c.named.ensures ∙ c.if-named.false,
      sym c.named-else-named.ensures ∙ c.if-named-2.true,
    )
    c.say_decode.ensures

pub returns-then-named-3 : goal.returns-then-named-3
unfolding alone_said
returns-then-named-3 c =
    rw (
      sym c.named.ensures ∙ c.if-named.false,
      sym c.named-else-named.ensures ∙ c.if-named-2.false,
      sym c.named-else-named-2.ensures ∙ c.if-named-3.true,
    )
    c.say_write.ensures

pub returns-else-named-3 : goal.returns-else-named-3
unfolding alone_said
returns-else-named-3 c =
    rw (
      sym c.named.ensures ∙ c.if-named.false,
      sym c.named-else-named.ensures ∙ c.if-named-2.false,
      sym c.named-else-named-2.ensures ∙ c.if-named-3.false,
    )
    c.say_bad.ensures
