-- `radio_status::read_radio` meets its contract: each arm is what the definition picks at its types. Assumes nothing.
use borrow.Author.Rules.{rules}
use borrow.Author.Tests.{ne_eqb}
use Rattle.radio_status.specs.Radio.{radio_of}
use Rattle.radio_status.proofs.read_radio.Goals as goal

pub returns-in-3 : goal.returns-in-3
unfolding radio_of
returns-in-3 c = rw (c.in-3.is, c.parse.ensures)

pub returns-in_default : goal.returns-in_default
unfolding radio_of
returns-in_default c = rw (ne_eqb c.args.msg_type 3 (search rules), c.parse-in_default.ensures)
