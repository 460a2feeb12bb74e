-- `record_read::read_sentence` meets its contract: the record joined where it lies, then what is told by the line's kind. Assumes nothing.
use mathlib.Core.Path.{ap, ◌∙◌}
use Rattle.refusal.specs.Words.{taken}
use Rattle.reassembly.specs.Record.{part_in}
use Rattle.record_read.proofs.Calls.{reads_refused, reads_unfinished, reads_complete, reads-last, last_long, last-few}
use Rattle.record_read.proofs.read_sentence.Goals as goal

pub returns-in-Err : goal.returns-in-Err
returns-in-Err c =
    reads_refused c.args.state.now c.requires c.args.payload.now c.args.bits.now c.args.decode c.args.s c.args.own.now c.join.result _ _
    c.fragment_of.ensures c.join.ensures c.in-Err.refusal (ap part_in c.in-Err.is) c.tell_refused.ensures

pub returns-in-Ok-Unfinished : goal.returns-in-Ok-Unfinished
returns-in-Ok-Unfinished c =
    let kind = ap part_in c.in-Ok-Unfinished.is ∙ ap taken c.in-Ok-Unfinished.field-0-is in
    reads_unfinished c.args.state.now c.requires c.args.payload.now c.args.bits.now c.args.decode c.args.s c.args.own.now c.join.result _ _
    c.fragment_of.ensures c.join.ensures kind (c.tell_unfinished.ensures c.args.bits.now)

pub returns-in-Ok-Alone : goal.returns-in-Ok-Alone
returns-in-Ok-Alone c =
    let kind = ap part_in c.in-Ok-Alone.is ∙ ap taken c.in-Ok-Alone.field-0-is in
    reads_complete c.args.state.now c.requires c.args.payload.now c.args.bits.now c.args.decode c.args.s c.args.own.now c.join.result _ _
    c.fragment_of.ensures c.join.ensures kind c.tell_complete.ensures

pub read_last-requires : goal.read_last-requires
read_last-requires c =
    let kind = ap part_in c.in-Ok-Last.is ∙ ap taken c.in-Ok-Last.field-0-is in (
      last_long c.args.state.now c.requires c.args.payload.now c.args.bits.now c.args.decode c.args.s c.args.own.now c.join.result _ _ c.fragment_of.ensures c.join.ensures kind,
      last-few c.args.state.now c.requires c.args.payload.now c.args.bits.now c.args.decode c.args.s c.args.own.now c.join.result _ _ c.fragment_of.ensures c.join.ensures kind,
    )

pub returns-in-Ok-Last : goal.returns-in-Ok-Last
returns-in-Ok-Last c =
    let kind = ap part_in c.in-Ok-Last.is ∙ ap taken c.in-Ok-Last.field-0-is in
    reads-last c.args.state.now c.requires c.args.payload.now c.args.bits.now c.args.decode c.args.s c.args.own.now c.join.result _ _
    c.fragment_of.ensures c.join.ensures kind c.read_last.ensures
