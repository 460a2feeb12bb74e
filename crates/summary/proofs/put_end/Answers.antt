-- `summary::put_end` meets its contract. Assumes nothing.
use Rattle.std.proofs.Common.{rules}
use mathlib.Core.Path.{sym}
use mathlib.Core.List.{[]}
use Rattle.text_out.proofs.Laws.{put-nothing, put_then}
use Rattle.summary.proofs.put_end.Goals as goal

pub returns-then-counts : goal.returns-then-counts
returns-then-counts c = record { same = search rules; is = rw c.if-counts.true (put_then _ _ _ c.put_unfinished.ensures.is c.put_summary.ensures.is) }

pub returns-else-counts : goal.returns-else-counts
returns-else-counts c = record { same = search rules; is = rw c.if-counts.false (put_then _ _ [] c.put_unfinished.ensures.is (sym (put-nothing _))) }
