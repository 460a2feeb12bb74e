-- `sumturnip::request::request_of` meets its contract. Assumes nothing.
use Rattle.sumturnip.proofs.request.request_of.Goals as goal

pub returns : goal.returns
returns c = rw (c.talker_of.ensures, c.report_of.ensures, c.channel_of.ensures, c.byte_of.ensures)
