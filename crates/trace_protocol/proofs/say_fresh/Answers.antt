-- `trace_protocol::say_fresh` meets its contract. Assumes nothing.
use mathlib.Core.Path.{sym, ◌∙◌}
use borrow.Author.Tests.{eq-eqb, ne_eqb}
use Rattle.trace_protocol.proofs.say_fresh.Goals as goal

pub returns-then-count-ne1 : goal.returns-then-count-ne1
returns-then-count-ne1 c = rw (ne_eqb _ 1 (λ e. c.if-count-ne1.true (c.count.ensures ∙ e))) c.no_command.ensures

pub returns : goal.returns
returns c =
    rw (eq-eqb _ 1 (sym c.count.ensures ∙ c.if-count-ne1.false)) (record { said = c.put_bytes.ensures; kept = c.fresh.ensures })
