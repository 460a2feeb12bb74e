-- `trace_commands::words::start` meets its contract: the words left to skip lead from here to the same word. Assumes nothing.
use Prim.Native.Nat.{ℕ, ◌+◌}
use native.Mathlib.Omega.{arith}
use mathlib.Core.Path.{sym, ap, ◌∙◌}
use lib.ListN.{drop}
use Rattle.trace_commands.specs.Line.{word_at}
use Rattle.trace_commands.proofs.Cuts.{word_end, skip_space, skip-other}
use Rattle.trace_commands.proofs.words.start.Goals as goal
use Rattle.trace_commands.proofs.words.start.Goals.{then-b-eq32, else-b-eq32}

pub returns-then-left-eq0 : goal.returns-then-left-eq0
returns-then-left-eq0 c = (omega arith, ap (λ (k : ℕ). word_at k (drop c.loop-i.i c.args.line.now)) (sym c.if-left-eq0.true) ∙ c.loop-i.invariant)

pub loop-i-preserved : goal.loop-i-preserved
loop-i-preserved c =
    elim c.if-b-eq32.branch [
      | then-b-eq32 w ↦
          ap (λ (k : ℕ). word_at k (drop (c.loop-i.i + 1) c.args.line.now)) w.left-is
          ∙ skip_space c.args.line.now c.loop-i.i (omega arith) w.if-b-eq32.true c.loop-i.left (omega (arith, c.if-left-eq0.false)) ∙ c.loop-i.invariant
      | else-b-eq32 w ↦
          ap (λ (k : ℕ). word_at k (drop (c.loop-i.i + 1) c.args.line.now)) w.left-is
          ∙ skip-other c.args.line.now c.loop-i.i (omega arith) w.if-b-eq32.false c.loop-i.left (omega (arith, c.if-left-eq0.false)) ∙ c.loop-i.invariant
    ]

pub returns : goal.returns
returns c = (omega arith, word_end c.args.line.now _ (omega arith) 0 ∙ sym (word_end c.args.line.now c.loop-i.i (omega arith) c.loop-i.left) ∙ c.loop-i.invariant)
