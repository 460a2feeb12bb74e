-- `parse_interrogation`: an interrogation, or that it ends early. Assumes nothing.
use mathlib.Core.Path.{◌≡◌, sym, ap, ◌∙◌}
use Rattle.std.specs.Prelude.{Ok, Err}
use Rattle.std.proofs.lemmas.Result.{err_from_is_err_and}
use Rattle.refusal.specs.declared.Refusal.TheVariants.{Short}
use Rattle.interrogation.specs.Interrogation.{interrogated_of}
use Rattle.interrogation.proofs.Unique.{is-answer}
use Rattle.messages.proofs.Laws.{short_alone}
use Rattle.messages.proofs.parse_interrogation.Goals as goal

pub returns-in_err-interrogation : goal.returns-in_err-interrogation
returns-in_err-interrogation c =
    let d = c.args.bytes.now in
    let p = err_from_is_err_and c.from_residual.result c.from_residual.ensures.1 in
    let s = short_alone _ _ _ c.in_err-interrogation.ensures in
    let w : interrogated_of d ≡ Err Short = sym (is-answer d _ c.in_err-interrogation.ensures) ∙ ap Err s in
    rw (p.1, p.2, s, w)

pub returns : goal.returns
returns c = rw (← is-answer c.args.bytes.now (Ok c.in_ok-interrogation.interrogation) c.in_ok-interrogation.ensures, c.nothing.ensures)
