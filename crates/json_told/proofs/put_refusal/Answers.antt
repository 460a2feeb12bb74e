-- `json_told::put_refusal` meets its contract. Assumes nothing.
use borrow.Author.Rules.{rules}
use Prim.Native.Nat.{ℕ}
use mathlib.Core.Path.{sym, ap, ◌∙◌}
use mathlib.Core.Bool.{Bool}
use lib.Dec.{ltb}
use lib.ListN.{length}
use Rattle.refusal.specs.Refusal.{row_of}
use Rattle.refusal.specs.declared.Refusal.{Refusal}
use Rattle.text_out.specs.Text.{put}
use Rattle.text_out.specs.Output.{stands}
use Rattle.text_out.proofs.Laws.{put-nothing}
use Rattle.json_told.specs.Object.{refused_object}
use Rattle.json_told.specs.Answer.{other_of, refused_tally}
use Rattle.json_told.specs.Laid.{Holds}
use Rattle.json_told.proofs.put_refusal.Goals as goal

pub returns-in-All : goal.returns-in-All
returns-in-All c = record {
  same = search rules;
  is = λ (refusal : Refusal) (h : Holds refusal c.args.refused).
      let row = row_of refusal in
      let other = c.is_another-other.ensures ∙ ap (λ (k : ℕ). other_of k c.args.line.now) h.its in (
        rw c.in-All.is
            (c.put_refused.ensures.is refusal h
            ∙ ap
            (λ (o : Bool).
            put (stands c.args.out.now)
            (refused_object c.args.refused.number row.number row.values
            (record { sender = c.args.sender; other = o; text = c.args.line.now; cut = ltb 100 (length c.args.line.now) })))
            other),
        c.count_refused.ensures
            ∙ ap (λ (k : ℕ). refused_tally c.args.tally.now k c.is_another-other.result) h.its
            ∙ ap (refused_tally c.args.tally.now row.number) other,
      );
}

pub returns-in-Quiet : goal.returns-in-Quiet
returns-in-Quiet c = record {
  same = search rules;
  is = λ (refusal : Refusal) (h : Holds refusal c.args.refused).
      let row = row_of refusal in
      let other = c.is_another-other.ensures ∙ ap (λ (k : ℕ). other_of k c.args.line.now) h.its in (
        rw c.in-Quiet.is (sym (put-nothing _)),
        c.count_refused.ensures
            ∙ ap (λ (k : ℕ). refused_tally c.args.tally.now k c.is_another-other.result) h.its
            ∙ ap (refused_tally c.args.tally.now row.number) other,
      );
}
