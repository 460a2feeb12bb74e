-- `trace_alone::show_unarmor` meets its contract. Assumes nothing.
use Rattle.std.proofs.Common.{ℕ, Result, rules}
use mathlib.Core.Path.{sym, ap, ◌∙◌}
use Rattle.text_out.specs.Text.{put, ascii}
use Rattle.text_out.specs.Output.{stands}
use Rattle.armour.specs.Unarmor.{unarmored_in}
use Rattle.refusal.specs.declared.Refusal.{Refusal}
use Rattle.trace_show.specs.Shown.{fill_shown}
use Rattle.trace_alone.proofs.Unarmoring.{unarmor_shown_lem}
use Rattle.trace_alone.proofs.show_unarmor.Goals as goal

pub returns-in-Ok : goal.returns-in-Ok
returns-in-Ok c = record {
  same = search rules;
  is =
      let x = stands c.args.out.now in
      unarmor_shown_lem c.args.payload.now c.args.fill c.args.lent.now c.unarmor-r.result c.unarmor-r.new.out c.unarmor-r.ensures x _
      (c.put_filled.ensures.is
      ∙ ap (λ (r : Result ℕ Refusal). put x (fill_shown (ascii "bytes ") (unarmored_in r) c.unarmor-r.new.out)) (sym c.in-Ok.is));
}

pub returns-in-Err : goal.returns-in-Err
returns-in-Err c = record {
  same = search rules;
  is =
      let x = stands c.args.out.now in
      unarmor_shown_lem c.args.payload.now c.args.fill c.args.lent.now c.unarmor-r.result c.unarmor-r.new.out c.unarmor-r.ensures x _
      (c.put_refused.ensures.is
      ∙ ap (λ (r : Result ℕ Refusal). put x (fill_shown (ascii "bytes ") (unarmored_in r) c.unarmor-r.new.out)) (sym c.in-Err.is));
}
