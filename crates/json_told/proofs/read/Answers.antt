-- `json_told::read` meets its contract. Assumes nothing.
use Rattle.json_told.proofs.Lent.{read_laid}
use Rattle.json_told.proofs.read.Goals as goal

pub returns : goal.returns
returns c =
    read_laid c.args.state.now c.args.line.now c.args.number c.requires.0 c.requires.1 c.read-code.ensures
    c.field-radio.ensures.is c.count_of.ensures c.put_numbers.ensures
