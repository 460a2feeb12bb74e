-- `trace_turn::answer_line` meets its contract. Assumes nothing.
use Rattle.std.proofs.Common.{rules}
use mathlib.Core.Path.{ap, ◌∙◌}
use Prim.Native.Nat.{ℕ}
use mathlib.Core.List.{List}
use lib.ListN.{take}
use Rattle.text_out.proofs.Laws.{take_min}
use Rattle.trace_turn.specs.Turn.{command_of}
use Rattle.trace_turn.proofs.Laws.{replied}
use Rattle.trace_turn.proofs.answer_line.Goals as goal

pub returns : goal.returns
returns c =
    let used = c.args.out.now.at in
    let bytes = c.args.out.now.buffer.now in
    record {
      same = search rules;
      is =
          replied c.args.state _ used _ bytes c.answer-after.ensures.said.is c.put_byte.ensures.is c.answer-after.ensures.kept
          ∙ ap (λ (l : List ℕ). command_of c.args.state used l bytes)
          (ap (λ (k : ℕ). take k c.args.line.now) c.up_to-k.ensures.value ∙ take_min c.args.n c.args.line.now);
    }
