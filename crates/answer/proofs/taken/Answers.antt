-- `taken`: each way out is one law (proofs/Laws). Assumes nothing.
use mathlib.Core.Path.{◌≡◌, refl}
use native.Mathlib.Omega.{arith}
use Rattle.refusal.specs.Words.{pick, taken}
use Rattle.answer.specs.Answer.{complete, unfinished, outcome_in, plainly}
use Rattle.answer.specs.declared.Outcome.{Outcome}
use Rattle.answer.proofs.Laws.{taken_12, taken_6, taken_handed}
use Rattle.answer.proofs.taken.Goals as goal

pub returns-then-payload-lt384 : goal.returns-then-payload-lt384
returns-then-payload-lt384 c = λ bits.
    taken_12 c.args.s c.args.handed.now c.args.payload.now _ bits c.args.finished (omega arith) c.refuse_plainly.ensures

pub returns-then-handed-gt384 : goal.returns-then-handed-gt384
returns-then-handed-gt384 c = λ bits.
    taken_6 c.args.s c.args.handed.now c.args.payload.now _ bits c.args.finished (omega arith) (omega arith) c.refuse_plainly-then-handed-gt384.ensures

pub hand-sentence-requires : goal.hand-sentence-requires
hand-sentence-requires c = record { few = omega arith; room = omega arith }

pub returns-then-finished : goal.returns-then-finished
returns-then-finished c = λ bits.
    let o : outcome_in Outcome.Complete ≡ taken (pick c.args.finished complete unfinished) = rw c.if-finished.true in
    taken_handed c.args.s c.args.handed.now c.args.payload.now (plainly (record { outcome = Outcome.Complete; sentence = c.hand-sentence.result })) bits c.args.finished
    (omega arith) (omega arith) _ c.hand-sentence.ensures.value refl c.hand-sentence.ensures.payload_after o

pub returns : goal.returns
returns c = λ bits.
    let o : outcome_in Outcome.Unfinished ≡ taken (pick c.args.finished complete unfinished) = rw c.if-finished.false in
    taken_handed c.args.s c.args.handed.now c.args.payload.now (plainly (record { outcome = Outcome.Unfinished; sentence = c.hand-sentence.result })) bits c.args.finished
    (omega arith) (omega arith) _ c.hand-sentence.ensures.value refl c.hand-sentence.ensures.payload_after o
