-- `radio_status::SotdmaMessage::parse` meets its contract: each field is what its reader ensures. Assumes nothing.
use Rattle.radio_status.specs.Radio.{sotdma_of}
use Rattle.radio_status.proofs.SotdmaMessage.parse.Goals as goal

pub returns : goal.returns
unfolding sotdma_of
returns c = rw (c.parse-sub_message.ensures, c.field-slot_timeout.ensures.is, c.parse-sync_state.ensures)
