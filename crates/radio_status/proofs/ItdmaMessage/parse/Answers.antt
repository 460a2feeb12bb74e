-- `radio_status::ItdmaMessage::parse` meets its contract: each field is what its reader ensures. Assumes nothing.
use Rattle.radio_status.specs.Radio.{itdma_of}
use Rattle.radio_status.proofs.ItdmaMessage.parse.Goals as goal

pub returns : goal.returns
unfolding itdma_of
returns c = rw (c.field-keep.ensures.is, c.field-num_slots.ensures.is, c.field-slot_increment.ensures.is, c.parse-sync_state.ensures)
