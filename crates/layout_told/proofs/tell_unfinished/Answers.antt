-- `layout_told::tell_unfinished` meets its contract. Assumes nothing.
use mathlib.Core.Path.{refl}
use Rattle.answer.specs.Answer.{plainly}
use Rattle.layout_told.proofs.tell_unfinished.Goals as goal

pub returns : goal.returns
returns c bits =
    record {
      answer = plainly c.unfinished_plainly-told.result;
      heard = c.unfinished_plainly-told.ensures bits;
      told = c.tell_plain.ensures;
      texted = refl;
    }
