-- `trace_call::put_answer` meets its contract. Assumes nothing.
use Rattle.std.proofs.Common.{rules}
use mathlib.Core.Path.{sym}
use Rattle.text_out.proofs.Laws.{put_then}
use Rattle.trace_call.proofs.put_answer.Goals as goal

pub returns-in-Complete : goal.returns-in-Complete
returns-in-Complete c = rw (c.in-Complete.is, sym c.bits_out-m.ensures) (rw c.in-Complete.is at c.put_taken.ensures)

pub returns-in-Unfinished : goal.returns-in-Unfinished
returns-in-Unfinished c = rw c.in-Unfinished.is (rw c.in-Unfinished.is at c.put_taken-in-Unfinished.ensures)

pub returns-in-Refused : goal.returns-in-Refused
returns-in-Refused c = record { same = search rules; is = rw c.in-Refused.is (put_then _ _ _ c.put_refusal.ensures.is c.put_both_kept.ensures.is) }
