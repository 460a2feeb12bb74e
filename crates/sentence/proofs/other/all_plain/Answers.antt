-- `all_plain` meets its contract. Assumes nothing.
use mathlib.Core.Path.{◌∙◌}
use Rattle.std.proofs.Common.{rules, tests}
use Rattle.std.proofs.lemmas.Iterator.{YieldsList-from_slice}
use Rattle.std.proofs.lemmas.Iterator.Search.{all_from_yields_List}
use Rattle.sentence.specs.Other.{is_plain}
use Rattle.sentence.proofs.OtherSteps.{same_all}
use Rattle.sentence.proofs.other.all_plain.Goals as goal

pub returns : goal.returns
returns c =
    all_from_yields_List is_plain _ _ c.all.result c.all.ensures.ran (YieldsList-from_slice c.args.name.now cc) (λ x b q k. search (rules, tests))
    ∙ same_all c.args.name.now
