-- `decoding::asked_by` meets its contract. Assumes nothing.
use mathlib.Core.Path.{sym, ◌∙◌}
use Rattle.decoding.specs.Asked.{asked_by}
use Rattle.decoding.proofs.asked_by.Goals as goal

pub returns-in-Option : goal.returns-in-Option
unfolding asked_by
returns-in-Option c = rw (sym c.word_of.ensures ∙ c.in-Option.is) c.asked_by_option.ensures

pub returns-in-Help : goal.returns-in-Help
unfolding asked_by
returns-in-Help c = rw (sym c.word_of.ensures ∙ c.in-Help.is)

pub returns-in-Status : goal.returns-in-Status
unfolding asked_by
returns-in-Status c = rw (sym c.word_of.ensures ∙ c.in-Status.is)

pub returns-in-Input : goal.returns-in-Input
unfolding asked_by
returns-in-Input c = rw (sym c.word_of.ensures ∙ c.in-Input.is)
