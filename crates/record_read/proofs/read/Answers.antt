-- `record_read::read` meets its contract. Assumes nothing.
use Rattle.record_read.proofs.Calls.{record_short, numbers-short, texts-short, read-flattened}
use Rattle.record_read.proofs.read.Goals as goal

pub returns-then-state-lt400 : goal.returns-then-state-lt400
returns-then-state-lt400 c = record_short c.args.state.now c.args.line.now c.args.decode c.args.payload.now c.args.bits.now c.args.numbers.now c.args.texts.now c.if-state-lt400.true

pub returns-then-numbers-lt50 : goal.returns-then-numbers-lt50
returns-then-numbers-lt50 c =
    numbers-short c.args.state.now c.args.line.now c.args.decode c.args.payload.now c.args.bits.now c.args.numbers.now c.args.texts.now c.if-state-lt400.false
    c.if-numbers-lt50.true

pub returns-then-texts-lt80 : goal.returns-then-texts-lt80
returns-then-texts-lt80 c =
    texts-short c.args.state.now c.args.line.now c.args.decode c.args.payload.now c.args.bits.now c.args.numbers.now c.args.texts.now c.if-state-lt400.false
    c.if-numbers-lt50.false c.if-texts-lt80.true

pub returns : goal.returns
returns c =
    let r = rw c.decode_of-decode.ensures at c.read_line.ensures in
    read-flattened c.args.state.now c.args.line.now c.args.decode c.args.payload.now c.args.bits.now c.args.numbers.now c.args.texts.now
    c.if-state-lt400.false c.if-numbers-lt50.false c.if-texts-lt80.false r.answer r.leaves r.told r.texted
