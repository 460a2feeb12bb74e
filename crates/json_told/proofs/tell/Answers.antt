-- `json_told::tell` meets its contract. Assumes nothing.
use borrow.Author.Rules.{rules}
use Rattle.json_told.proofs.Lent.{told-left}
use mathlib.Core.Path.{ap, ◌∙◌}
use Rattle.reassembly.specs.declared.Record.{Record}
use Rattle.layout_answer.specs.Sender.{sender_of}
use Rattle.json_told.proofs.tell.Goals as goal

pub returns : goal.returns
returns c = record {
  same = search rules;
  is = told-left c.args.show c.args.state.now c.args.line.now c.args.number c.args.out.now.at c.args.out.now.buffer.now c.args.tally.now
      (c.sender_of-sender.ensures ∙ ap (λ (r : Record). sender_of c.read-code.result r c.args.line.now) c.load-found.ensures) c.read-code.ensures
      c.put_told.ensures.is;
}
