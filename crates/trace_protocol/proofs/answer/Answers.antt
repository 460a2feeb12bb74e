-- `trace_protocol::answer` meets its contract. Assumes nothing.
use mathlib.Core.Path.{refl, sym, ◌∙◌}
use Rattle.trace_protocol.proofs.Laws.{reply-fresh, reply_lend, reply-read, reply-alone, as_replied}
use Rattle.trace_protocol.proofs.answer.Goals as goal

pub returns-then-named : goal.returns-then-named
returns-then-named c =
    let e = reply-fresh c.args.state c.args.line.now (sym c.named.ensures ∙ c.if-named.true) in
    let r = as_replied e _ _ _ (c.say_fresh.ensures.said, c.say_fresh.ensures.kept) in
    record { said = r.0; kept = r.1 }

pub returns-then-named-2 : goal.returns-then-named-2
returns-then-named-2 c =
    let e = reply_lend c.args.state c.args.line.now (sym c.named.ensures ∙ c.if-named.false) (sym c.named-2.ensures ∙ c.if-named-2.true) in
    let r = as_replied e _ _ _ (c.say_lend.ensures.said, c.say_lend.ensures.kept) in
    record { said = r.0; kept = r.1 }

pub returns-then-named-3 : goal.returns-then-named-3
returns-then-named-3 c =
    let e = reply-read c.args.state c.args.line.now (sym c.named.ensures ∙ c.if-named.false) (sym c.named-2.ensures ∙ c.if-named-2.false)
    (sym c.named-3.ensures ∙ c.if-named-3.true) in
    let r = as_replied e _ _ _ (c.say_read.ensures.said, c.say_read.ensures.kept) in
    record { said = r.0; kept = r.1 }

pub returns : goal.returns
returns c =
    let e = reply-alone c.args.state c.args.line.now (sym c.named.ensures ∙ c.if-named.false) (sym c.named-2.ensures ∙ c.if-named-2.false)
    (sym c.named-3.ensures ∙ c.if-named-3.false) in
    let r = as_replied e _ _ _ (c.answer_alone.ensures, refl) in
    record { said = r.0; kept = r.1 }
