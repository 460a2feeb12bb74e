-- `trace_show::put_filled` meets its contract. Assumes nothing.
use Rattle.std.proofs.Common.{rules}
use Prim.Native.Nat.{ℕ}
use mathlib.Core.Path.{ap, ◌∙◌}
use mathlib.Core.Bool.{Bool}
use mathlib.Core.List.{List, ◌++◌}
use lib.ListN.{take}
use Rattle.text_out.specs.Text.{put}
use Rattle.text_out.proofs.Laws.{put_then, take_min}
use Rattle.face_values.specs.Quoted.{shown_in}
use Rattle.trace_show.specs.Shown.{kept_shown}
use Rattle.text_out.specs.Output.{stands}
use Rattle.trace_show.proofs.put_filled.Goals as goal

pub returns : goal.returns
returns c = record {
  same = search rules;
  is = let x = stands c.args.out.now in
      put_then x c.args.word.now (shown_in (take c.up_to-k.result c.args.lent.now) ++ kept_shown c.untouched-kept.result) c.put_bytes.ensures.is
      (put_then _ (shown_in (take c.up_to-k.result c.args.lent.now)) (kept_shown c.untouched-kept.result) c.put_shown.ensures.is c.put_kept.ensures.is)
      ∙ ap (λ (t : List ℕ). put x (c.args.word.now ++ (shown_in t ++ kept_shown c.untouched-kept.result))) (ap (λ (i : ℕ). take i c.args.lent.now) c.up_to-k.ensures.value ∙ take_min c.args.n c.args.lent.now)
      ∙ ap (λ (b : Bool). put x (c.args.word.now ++ (shown_in (take c.args.n c.args.lent.now) ++ kept_shown b))) c.untouched-kept.ensures;
}
