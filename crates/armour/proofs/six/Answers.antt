-- `six`: the value of a byte that is armour, and of one that is none. Assumes nothing.
use mathlib.Core.Path.{sym, ◌∙◌}
use borrow.Author.Tests.{ltb-true, ltb-false}
use Rattle.armour.proofs.Laws.{armour_none}
use Rattle.armour.proofs.six.Goals as goal

pub value-requires : goal.value-requires
value-requires c = ltb-true _ 64 (sym c.is_armour.ensures ∙ c.if-is_armour.true)

pub returns-else-is_armour : goal.returns-else-is_armour
returns-else-is_armour c = armour_none _ (ltb-false _ 64 (sym c.is_armour.ensures ∙ c.if-is_armour.false))
