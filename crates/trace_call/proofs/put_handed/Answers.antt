-- `trace_call::put_handed` meets its contract. Assumes nothing.
use Rattle.std.proofs.Common.{rules}
use Prim.Native.Nat.{ℕ}
use mathlib.Core.Path.{ap, ◌∙◌}
use mathlib.Core.List.{List, [], ◌∷◌}
use lib.ListN.{take}
use Rattle.text_out.specs.Text.{put}
use Rattle.text_out.proofs.Laws.{put_then, take_min}
use Rattle.face_values.specs.Quoted.{shown_in}
use Rattle.text_out.specs.Output.{stands}
use Rattle.trace_call.proofs.put_handed.Goals as goal

pub returns : goal.returns
returns c = record {
  same = search rules;
  is = put_then _ (32 ∷ []) _ c.put_byte.ensures.is c.put_shown.ensures.is
      ∙ ap (λ (t : List ℕ). put (stands c.args.out.now) (32 ∷ shown_in t)) (ap (λ (i : ℕ). take i c.args.buffer.now) c.up_to-k.ensures.value ∙ take_min c.args.n c.args.buffer.now);
}
