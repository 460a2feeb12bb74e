-- `json_told::put_refused` meets its contract. Assumes nothing.
use borrow.Author.Rules.{rules}
use Rattle.refusal.specs.declared.Refusal.{Refusal}
use Rattle.text_out.specs.Output.{stands}
use Rattle.json_told.specs.Laid.{Holds}
use Rattle.json_told.proofs.Refused.{refused-put}
use Rattle.json_told.proofs.put_refused.Goals as goal

pub returns : goal.returns
returns c = record {
  same = search rules;
  is = λ (refusal : Refusal) (h : Holds refusal c.args.refused).
      refused-put c.args.refused.number (record { sender = c.args.beside.sender; other = c.args.beside.other; text = c.args.line.now; cut = c.args.beside.cut }) (stands c.args.out.now)
      c.count_of-count.ensures c.up_to-shown.ensures.value (search rules) (search rules) (search rules) (search rules) c.put_numbers.ensures
      c.put_numbers-2.ensures c.put_refused.ensures.is refusal h.its h.first h.second;
}
