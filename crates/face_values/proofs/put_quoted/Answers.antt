-- `face_values::put_quoted` meets its contract. Assumes nothing.
use Rattle.std.proofs.Common.{rules}
use mathlib.Core.List.{[], ◌∷◌}
use Rattle.text_out.proofs.Laws.{put_then}
use Rattle.face_values.proofs.put_quoted.Goals as goal

pub returns : goal.returns
returns c = record { same = search rules; is = put_then _ (34 ∷ []) _ c.put_byte.ensures.is (put_then _ _ _ c.put_inside.ensures.is c.put_byte-2.ensures.is) }
