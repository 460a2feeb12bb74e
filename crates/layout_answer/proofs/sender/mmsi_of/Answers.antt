-- `layout_answer::sender::mmsi_of` meets its contract. Assumes nothing.
use Prim.Native.Nat.{ℕ}
use mathlib.Core.Path.{ap, ◌∙◌}
use mathlib.Core.List.{List}
use lib.ListN.{take, replicate}
use Rattle.refusal.specs.Words.{left}
use Rattle.parsers.specs.Field.{field_of}
use Rattle.armour.specs.Armour.{unarmored}
use Rattle.armour.specs.Unarmor.{answer_of}
use Rattle.text_out.proofs.Laws.{take_min}
use Rattle.layout_answer.proofs.sender.mmsi_of.Goals as goal

pub returns : goal.returns
returns c =
    c.field.ensures.is
    ∙ ap (λ (d : List ℕ). field_of d 8 30)
    (c.unarmor.ensures.leaves
    ∙ ap (λ (s : List ℕ). left (answer_of s 0 6) (unarmored s 0) (replicate 6 0))
    (ap (λ (i : ℕ). take i c.args.payload.now) c.up_to-k.ensures.value ∙ take_min 7 c.args.payload.now))
