-- `trace_write::show_write` meets its contract. Assumes nothing.
use Rattle.std.proofs.Common.{rules}
use Prim.Native.Nat.{ℕ}
use mathlib.Core.Path.{sym, ap, ◌∙◌}
use Rattle.std.specs.Prelude.{Result}
use Rattle.refusal.specs.declared.Refusal.{Refusal}
use Rattle.text_out.specs.Text.{put, ascii}
use Rattle.text_out.specs.Output.{stands}
use Rattle.writer.specs.Writer.{written_in}
use Rattle.trace_show.specs.Shown.{fill_shown}
use Rattle.trace_write.proofs.Writing.{write_shown_lem}
use Rattle.trace_write.proofs.show_write.Goals as goal

pub returns-in-Ok : goal.returns-in-Ok
returns-in-Ok c = record {
  same = search rules;
  is =
      let x = stands c.args.out.now in
      write_shown_lem c.args.request c.args.bits.now c.args.lent.now c.write.result c.write.new.out c.write.ensures x _
      (c.put_filled.ensures.is
      ∙ ap (λ (r : Result ℕ Refusal). put x (fill_shown (ascii "lines ") (written_in r) c.write.new.out)) (sym c.in-Ok.is));
}

pub returns-in-Err : goal.returns-in-Err
returns-in-Err c = record {
  same = search rules;
  is =
      let x = stands c.args.out.now in
      write_shown_lem c.args.request c.args.bits.now c.args.lent.now c.write.result c.write.new.out c.write.ensures x _
      (c.put_refused.ensures.is
      ∙ ap (λ (r : Result ℕ Refusal). put x (fill_shown (ascii "lines ") (written_in r) c.write.new.out)) (sym c.in-Err.is));
}
