-- `radio_status::SubMessage::parse` meets its contract: each arm reads the fields that the definition picks at its timeouts. Assumes nothing.
use borrow.Author.Rules.{rules}
use mathlib.Core.Path.{ap, sym, ◌∙◌}
use borrow.Author.Tests.{ne_eqb}
use Rattle.radio_status.specs.Table.{radio_table}
use Rattle.radio_status.specs.Radio.{sub_of}
use Rattle.radio_status.specs.declared.SubMessage.{SubMessage}
use Rattle.radio_status.proofs.Laws.{slot_number}
use Rattle.radio_status.proofs.SubMessage.parse.Goals as goal

pub returns-in-0 : goal.returns-in-0
unfolding sub_of
returns-in-0 c = rw (c.in-0.is, c.field.ensures.is)

pub returns-in-1 : goal.returns-in-1
unfolding sub_of
returns-in-1 c = rw (c.in-1.is, c.field-in-1.ensures.is, c.field-in-1-2.ensures.is)

pub returns-in-2 : goal.returns-in-2
returns-in-2 c =
    ap SubMessage.SlotNumber c.field-in-2.ensures.is
    ∙ sym (slot_number radio_table c.args.bytes.now c.args.slot_timeout c.in-2.is)

pub returns-in_default : goal.returns-in_default
unfolding sub_of
returns-in_default c =
    let timeout = c.args.slot_timeout in
    simp (
      ne_eqb timeout 0 (search rules),
      ne_eqb timeout 1 (search rules),
      ne_eqb timeout 2 (search rules),
      ne_eqb timeout 4 (search rules),
      ne_eqb timeout 6 (search rules),
      c.field-in_default.ensures.is,
    )
