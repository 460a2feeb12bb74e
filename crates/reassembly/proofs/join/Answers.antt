-- `join`: the first line of several, one that is complete alone, and a further one of several. Assumes nothing.
use mathlib.Core.Path.{sym, ap, ◌∙◌}
use Rattle.reassembly.specs.Record.{is_alone, several_of}
use Rattle.reassembly.specs.declared.Part.{Part}
use Rattle.reassembly.proofs.Laws.{first_one, join_first, join_next_lem, join_alone}
use Rattle.reassembly.proofs.join.Goals as goal

pub join_first-requires : goal.join_first-requires
join_first-requires c = first_one c.args.state c.args.fragment c.args.payload.now (sym c.is_first.ensures ∙ c.if-is_first.true)

pub returns-then-is_first : goal.returns-then-is_first
returns-then-is_first c =
    c.join_first.ensures c.args.state
    ∙ sym (join_first c.args.state c.args.fragment c.args.payload.now (sym c.is_first.ensures ∙ c.if-is_first.true))

pub returns-then-is_alone : goal.returns-then-is_alone
returns-then-is_alone c =
    join_alone c.args.state c.args.fragment c.args.payload.now
    (ap is_alone (sym c.part_of-part.ensures) ∙ sym c.is_alone.ensures ∙ c.if-is_alone.true) c.alone.result
    c.alone.ensures

pub returns : goal.returns
returns c =
    c.join_next.ensures ∙ ap (λ (p : Part). several_of p c.args.state c.args.state c.args.fragment c.args.payload.now) c.part_of-part.ensures
    ∙ sym (join_next_lem c.args.state c.args.fragment c.args.payload.now (sym c.is_first.ensures ∙ c.if-is_first.false)
    (ap is_alone (sym c.part_of-part.ensures) ∙ sym c.is_alone.ensures ∙ c.if-is_alone.false))
