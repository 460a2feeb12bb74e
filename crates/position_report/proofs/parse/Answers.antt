-- `position_report::parse` meets its contract: no bytes, or what reading the radio status of the type tells. Assumes nothing.
use Rattle.std.specs.Prelude.{Result, Ok, Err}
use Rattle.std.proofs.lemmas.Result.{err_from_is_err_and}
use mathlib.Core.Path.{◌≡◌, refl, ap, sym, ◌∙◌}
use mathlib.Core.List.{List}
use Prim.Native.Nat.{ℕ, ◌<◌}
use native.Mathlib.Omega.{arith}
use lib.ListN.{length}
use Rattle.parsers.specs.Field.{field_of, the_taken_in}
use Rattle.parsers.proofs.Fields.{field_lt}
use Rattle.radio_status.specs.Table.{radio_table}
use Rattle.radio_status.specs.Radio.{radio_in, parsed_of}
use Rattle.radio_status.specs.declared.RadioStatus.{RadioStatus}
use Rattle.radio_status.specs.declared.Unread.{Unread}
use Rattle.position_report.specs.Table.{position_table}
use Rattle.position_report.specs.Report.{report_in, answer_of}
use Rattle.position_report.specs.declared.PositionReport.{PositionReport}
use Rattle.position_report.proofs.Laws.{type_none, type-some, by_radio, of_none, of_some}
use Rattle.position_report.proofs.parse.Goals as goal

pub returns-in_default : goal.returns-in_default
returns-in_default c = sym (of_none _ (type_none _ (sym c.message_type.ensures ∙ ap the_taken_in c.in_default.is)))

pub overflow_cast-number : goal.overflow_cast-number
overflow_cast-number c =
    let t = type-some c.args.bytes.now _ (sym c.message_type.ensures ∙ ap the_taken_in c.in-Some.is) in
    let l : field_of c.args.bytes.now 0 6 < 64 = field_lt c.args.bytes.now 0 6 in
    omega (arith, t.0)

-- the answer, from what was read of the radio status
answer-by : (d : List ℕ) (n : ℕ) (r : Result RadioStatus Unread) → (n ≡ field_of d 0 6) × (length d ≡ 0 → ⊥) → radio_in r ≡ parsed_of radio_table d n
    → answer_of position_table d ≡ by_radio d (radio_in r)
answer-by d n r t e = of_some d t.1 ∙ ap (λ (k : ℕ). by_radio d (parsed_of radio_table d k)) (sym t.0) ∙ ap (by_radio d) (sym e)

-- why there is no status is why there is no report
same_reason : (d : List ℕ) (e : Unread) → report_in (Err e) ≡ by_radio d (radio_in (Err e))
same_reason d Unread.Short = refl
same_reason d (Unread.OtherType k) = refl

pub returns-in_err-status : goal.returns-in_err-status
returns-in_err-status c =
    let d = c.args.bytes.now in
    let t = type-some d _ (sym c.message_type.ensures ∙ ap the_taken_in c.in-Some.is) in
    let p = err_from_is_err_and c.from_residual.result c.from_residual.ensures.1 in
    ap report_in p.1 ∙ ap (λ (e : Unread). report_in (Err e)) p.2 ∙ same_reason d _
    ∙ sym (answer-by d _ c.parse_radio.result t c.parse_radio.ensures ∙ ap (λ (r : Result RadioStatus Unread). by_radio d (radio_in r)) c.in_err-status.was)

pub returns : goal.returns
returns c =
    let d = c.args.bytes.now in
    let t = type-some d _ (sym c.message_type.ensures ∙ ap the_taken_in c.in-Some.is) in
    ap (λ (r : PositionReport). report_in (Ok r)) c.parse_base.ensures
    ∙ sym (answer-by d _ c.parse_radio.result t c.parse_radio.ensures ∙ ap (λ (r : Result RadioStatus Unread). by_radio d (radio_in r)) c.in_ok-status.was)
