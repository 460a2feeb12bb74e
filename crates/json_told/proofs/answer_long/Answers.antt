-- `json_told::answer_long` meets its contract. Assumes nothing.
use borrow.Author.Rules.{rules}
use Prim.Native.Nat.{ℕ}
use mathlib.Core.Path.{ap, ◌∙◌}
use mathlib.Core.List.{List, []}
use Rattle.text_out.specs.Text.{Text, text, put}
use Rattle.json_told.specs.Object.{refused_object}
use Rattle.json_told.specs.Answer.{about_long, shown_by}
use Rattle.json_told.proofs.Calls.{left_same}
use Rattle.json_told.proofs.answer_long.Goals as goal

pub returns : goal.returns
returns c =
    let told = shown_by c.args.show (refused_object c.saturating_add-number.result 1 [] (about_long c.args.line.now)) in
    record {
      by_index = λ (state : List ℕ).
          left_same state (ap (text c.put_long.new.out.at) (search rules ∙ c.drop-out.ensures) ∙ c.put_long.ensures.is ∙ ap (λ (t : Text). put t told) c.new-out.ensures.is) c.count.ensures;
      number_value = c.saturating_add-number.ensures;
    }
