-- `put_lines` meets its contract: what is put so far and the lines that are left are the whole. Assumes nothing.
use Rattle.std.proofs.Common.{rules}
use mathlib.Core.Path.{◌≡◌, sym, ◌∙◌}
use mathlib.Core.List.{List}
use Prim.Native.Nat.{ℕ, ◌+◌, ◌-◌, ◌/◌}
use native.Mathlib.Omega.{arith}
use Rattle.text_out.specs.Output.{stands}
use Rattle.writer.specs.Message.{chars_in, lines_in, text_all}
use Rattle.writer.specs.Writer.{message_of}
use Rattle.writer.specs.declared.Request.{Request}
use Rattle.writer.proofs.Sendable.{count_range, sendable, few_lines}
use Rattle.writer.proofs.Lines.{lines_are, lines_step, lines_end}
use Rattle.writer.proofs.put_lines.Goals as goal

found : (q : Request) (d : List ℕ) (n : ℕ) → n ≡ (chars_in q.count + 59) / 60 → n ≡ lines_in (message_of q d)
found q d n e = rw lines_are e

pub lines_in-lines-requires : goal.lines_in-lines-requires
lines_in-lines-requires c = (count_range _ _ c.args.asked.inside).1

pub overflow_add-i-end : goal.overflow_add-i-end
overflow_add-i-end c = omega (arith, few_lines _ (sendable _ _ c.args.asked.inside), found c.args.asked.request c.args.asked.bits.now _ c.lines_in-lines.ensures)

pub loop-i-init : goal.loop-i-init
unfolding text_all
loop-i-init c = record {
  same = search rules;
  is =
      let e = found c.args.asked.request c.args.asked.bits.now _ c.lines_in-lines.ensures in
      let k : c.lines_in-lines.result + 1 - 1 ≡ lines_in (message_of c.args.asked.request c.args.asked.bits.now) = omega (arith, e) in
      rw k;
}

pub put_line-requires : goal.put_line-requires
put_line-requires c = (omega arith, omega (arith, found c.args.asked.request c.args.asked.bits.now _ c.lines_in-lines.ensures))

pub loop-i-preserved : goal.loop-i-preserved
loop-i-preserved c = record {
  same = search rules;
  is =
      lines_step (stands c.loop-i.out) (message_of c.args.asked.request c.args.asked.bits.now) c.lines_in-lines.result c.loop-i.i
      (omega arith) c.put_line.ensures.is c.loop-i.invariant.is;
}

pub returns : goal.returns
returns c = record {
  same = search rules;
  is =
      sym (lines_end (stands c.loop-i.out) (message_of c.args.asked.request c.args.asked.bits.now) c.lines_in-lines.result c.loop-i.i
      (omega arith))
      ∙ c.loop-i.invariant.is;
}
