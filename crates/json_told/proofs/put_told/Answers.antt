-- `json_told::put_told` meets its contract. Assumes nothing.
use borrow.Author.Rules.{rules}
use mathlib.Core.Path.{sym, ap, ◌∙◌}
use native.Mathlib.Omega.{arith}
use lib.ListN.{get_or}
use Rattle.answer.specs.Answer.{outcome_in}
use Rattle.answer.specs.declared.Outcome.{Outcome}
use Rattle.summary.specs.Tally.{counted_of}
use Rattle.text_out.proofs.Laws.{put-nothing}
use Rattle.layout_answer.specs.Sentence.{code_of, values_of}
use Rattle.json_told.specs.Laid.{Coded, Holds}
use Rattle.json_told.proofs.Codes.{complete-by, unfinished-by, refused-by}
use Rattle.json_told.proofs.put_told.Goals as goal

pub returns-in-0 : goal.returns-in-0
returns-in-0 c = record {
  same = search rules;
  is = λ (o : Outcome) (k : Coded o c.args.code c.args.numbers.now).
      let e = complete-by o (sym k.its ∙ c.in-0.is) in (
        rw e c.put_message.ensures.is,
        rw e (c.count.ensures ∙ ap (counted_of c.args.tally.now 0) c.number_at.ensures),
      );
}

pub returns-in-100 : goal.returns-in-100
returns-in-100 c = record {
  same = search rules;
  is = λ (o : Outcome) (k : Coded o c.args.code c.args.numbers.now).
      let e = unfinished-by o (sym k.its ∙ c.in-100.is) in
      (rw e (sym (put-nothing _)), rw e c.count-in-100.ensures);
}

pub returns-in_default : goal.returns-in_default
returns-in_default c = record {
  same = search rules;
  is = λ (o : Outcome) (k : Coded o c.args.code c.args.numbers.now).
      let x = refused-by o (λ e. let q = k.its ∙ e in omega arith) (λ e. let q = k.its ∙ e in omega arith) in
      let h : Holds x.refusal _ = record {
        its = k.its ∙ ap (λ (p : Outcome). code_of (outcome_in p)) x.is;
        first = c.number_at-in_default.ensures ∙ k.first ∙ ap (λ (p : Outcome). get_or (values_of (outcome_in p)) 0 0) x.is;
        second = c.number_at-in_default-2.ensures ∙ k.second ∙ ap (λ (p : Outcome). get_or (values_of (outcome_in p)) 1 0) x.is;
      } in
      let told = c.put_refusal.ensures.is x.refusal h in
      (rw x.is told.0, rw x.is told.1);
}
