-- `record_bytes::join`: too few bytes, the first line of several, one that is complete alone, and a further one of several. Assumes nothing.
use mathlib.Core.Path.{sym, ap, ◌∙◌}
use Rattle.reassembly.specs.Record.{is_alone, part_of, several_of, join_of}
use Rattle.reassembly.specs.declared.Record.{Record}
use Rattle.reassembly.specs.declared.Part.{Part}
use Rattle.reassembly.proofs.Laws.{first_one, join_first, join_next_lem, alone_join}
use Rattle.record_bytes.specs.Bytes.{record_in, loaded_of}
use Rattle.record_bytes.proofs.Placed.{joins_by, joins_as, joins_few, loaded_is}
use Rattle.record_bytes.proofs.join.Goals as goal

pub returns-then-state-lt400 : goal.returns-then-state-lt400
returns-then-state-lt400 c =
    joins_few c.args.state.now c.args.fragment c.args.payload.now c.join.result c.if-state-lt400.true
    (c.join.ensures ∙ ap (λ (r : Record). join_of r c.args.fragment c.args.payload.now) c.fresh.ensures)

pub join_first-requires : goal.join_first-requires
join_first-requires c = (
  c.if-state-lt400.false,
  first_one (loaded_of c.args.state.now) c.args.fragment c.args.payload.now (sym c.is_first.ensures ∙ c.if-is_first.true),
)

pub returns-then-is_first : goal.returns-then-is_first
returns-then-is_first c =
    let found = loaded_of c.args.state.now in
    joins_as _ _ (sym (join_first found c.args.fragment c.args.payload.now (sym c.is_first.ensures ∙ c.if-is_first.true)))
    (c.join_first.ensures found)

pub returns-then-is_alone : goal.returns-then-is_alone
returns-then-is_alone c =
    let found = loaded_of c.args.state.now in
    joins_by _ _ _ _ _ _
    (alone_join found c.args.fragment c.args.payload.now
    (ap is_alone (sym c.part_of-part.ensures) ∙ sym c.is_alone.ensures ∙ c.if-is_alone.true))
    c.alone.ensures c.keep.ensures

pub returns : goal.returns
returns c =
    let found = loaded_of c.args.state.now in
    joins_as _ _ (ap (λ (p : Part). several_of p (record_in c.args.state.now) (record_in c.args.state.now) c.args.fragment c.args.payload.now)
    c.part_of-part.ensures
    ∙ ap (λ (r : Record). several_of (part_of c.args.fragment) r r c.args.fragment c.args.payload.now) (sym (loaded_is c.args.state.now c.if-state-lt400.false))
    ∙ sym (join_next_lem found c.args.fragment c.args.payload.now (sym c.is_first.ensures ∙ c.if-is_first.false)
    (ap is_alone (sym c.part_of-part.ensures) ∙ sym c.is_alone.ensures ∙ c.if-is_alone.false)))
    c.join_next.ensures
