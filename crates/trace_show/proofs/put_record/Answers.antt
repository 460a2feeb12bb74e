-- `trace_show::put_record` meets its contract. Assumes nothing.
use Rattle.std.proofs.Common.{rules}
use mathlib.Core.Path.{ap, ◌∙◌}
use mathlib.Core.List.{List, [], ◌∷◌, ◌++◌}
use Prim.Native.Nat.{ℕ}
use Rattle.text_out.specs.Text.{put}
use Rattle.text_out.proofs.Laws.{put_then}
use Rattle.face_values.specs.Quoted.{shown_in}
use Rattle.trace_show.specs.Record.{id_shown, number}
use Rattle.text_out.specs.Output.{stands}
use Rattle.trace_show.proofs.put_record.Goals as goal

pub returns : goal.returns
returns c = record {
  same = search rules;
  is = put_then _ _ _ (put_then _ _ _ (put_then _ _ _ c.put_id.ensures.is c.put_number.ensures.is) c.put_number-2.ensures.is)
      (put_then _ (32 ∷ []) _ c.put_bytes.ensures.is c.put_shown.ensures.is)
      ∙ ap (λ (t : List ℕ). put (stands c.args.out.now) (id_shown c.args.state.message_id ++ number c.args.state.fragment_number ++ number c.args.state.len ++ (32 ∷ shown_in t)))
      c.trim.ensures;
}
