-- `trace_call::put_called` meets its contract. Assumes nothing.
use Rattle.std.proofs.Common.{rules}
use Rattle.text_out.proofs.Laws.{put_then}
use Rattle.trace_call.specs.Called.{called_shown}
use Rattle.trace_call.proofs.put_called.Goals as goal

pub returns : goal.returns
unfolding called_shown
returns c = record { same = search rules; is = put_then _ _ _ c.put_answer.ensures.is c.put_record.ensures.is }
