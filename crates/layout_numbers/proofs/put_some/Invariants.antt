-- `layout_numbers::put_some` meets its contract: what is put so far and what is left are the whole. Assumes nothing.
use mathlib.Core.Path.{◌≡◌}
use lib.ListN.{drop}
use Rattle.text_out.specs.Text.{text, put}
use Rattle.layout_numbers.proofs.put_some.Given as goal

abbrev pub invariant-loop-n : goal.invariant-loop-n
invariant-loop-n l = put (text l.p l.out) (drop l.n-index l.s) ≡ put (text l.at l.initial.out) l.s
