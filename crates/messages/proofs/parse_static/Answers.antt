-- `parse_static`: a report with its texts, or that it ends early. Assumes nothing.
use mathlib.Core.Path.{◌≡◌, sym, ap, ◌∙◌}
use Rattle.std.specs.Prelude.{Err}
use Rattle.std.proofs.lemmas.Result.{err_from_is_err_and}
use Rattle.refusal.specs.declared.Refusal.TheVariants.{Short}
use Rattle.static_data_report.specs.StaticData.{static_data_of}
use Rattle.static_data_report.proofs.Unique.{is-answer}
use Rattle.messages.proofs.Laws.{short_alone}
use Rattle.messages.proofs.parse_static.Goals as goal

pub returns-in_err-report : goal.returns-in_err-report
returns-in_err-report c =
    let d = c.args.bytes.now in
    let p = err_from_is_err_and c.from_residual.result c.from_residual.ensures.1 in
    let s = short_alone _ _ _ c.in_err-report.ensures.told in
    let w : static_data_of d ≡ Err Short = sym (is-answer d _ c.in_err-report.ensures) ∙ ap Err s in
    rw (p.1, p.2, s, w)

pub returns : goal.returns
returns c = rw (← is-answer c.args.bytes.now _ c.in_ok-report.ensures, c.nothing.ensures)
