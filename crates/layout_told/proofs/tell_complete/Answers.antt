-- `layout_told::tell_complete` meets its contract: decoded, or told plainly. Assumes nothing.
use mathlib.Core.Path.{refl}
use Rattle.answer.specs.Answer.{plainly}
use Rattle.layout_told.proofs.tell_complete.Goals as goal

pub returns-in-On : goal.returns-in-On
returns-in-On c =
    rw c.in-On.is
    (record {
      answer = c.complete-told.result;
      heard = c.complete-told.ensures;
      told = c.tell.ensures.texts_after;
      texted = c.tell.ensures.message_len;
    })

pub returns-in-Off : goal.returns-in-Off
returns-in-Off c =
    rw c.in-Off.is
    (record {
      answer = plainly c.complete_plainly-told.result;
      heard = c.complete_plainly-told.ensures c.args.bits.now;
      told = c.tell_plain.ensures;
      texted = refl;
    })
