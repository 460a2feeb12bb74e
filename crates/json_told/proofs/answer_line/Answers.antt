-- `json_told::answer_line` meets its contract. Assumes nothing.
use borrow.Author.Rules.{rules}
use Prim.Native.Nat.{ℕ}
use mathlib.Core.Path.{ap, ◌∙◌}
use mathlib.Core.List.{List}
use lib.ListN.{take}
use Rattle.text_out.specs.Text.{Text}
use Rattle.text_out.proofs.Laws.{take_min}
use Rattle.json_told.specs.Answer.{read_over, left_with, left_by, left_of}
use Rattle.json_told.proofs.answer_line.Goals as goal

pub returns : goal.returns
returns c =
    let number = c.saturating_add-number.result in
    let line = take c.up_to-k.result c.args.line.now in
    record {
      tally_after = ap (λ (b : List ℕ). left_with c.tell.new.state c.tell.new.out.at b c.tell.new.tally) (search rules ∙ c.drop-out.ensures)
          ∙ c.tell.ensures.is
          ∙ ap (λ (t : Text). left_by c.args.show number c.args.state.now line t c.args.tally.now (read_over c.args.state.now line)) c.new-out.ensures.is
          ∙ ap (λ (m : List ℕ). left_of c.args.show c.args.state.now number m c.args.s.used c.args.out.now c.args.tally.now)
          (ap (λ (i : ℕ). take i c.args.line.now) c.up_to-k.ensures.value ∙ take_min c.args.n c.args.line.now);
      number_value = c.saturating_add-number.ensures;
    }
