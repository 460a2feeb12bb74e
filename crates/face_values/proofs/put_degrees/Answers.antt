-- `face_values::put_degrees` meets its contract. Assumes nothing.
use Rattle.std.proofs.Common.{rules}
use Rattle.text_out.proofs.Laws.{put_then}
use mathlib.Core.Path.{sym}
use Rattle.face_values.proofs.put_degrees.Goals as goal

pub returns : goal.returns
returns c = record { same = search rules; is = put_then _ _ _ c.put_sign.ensures.is (rw (sym c.size.ensures, sym c.rounded-k.ensures) c.put_fixed.ensures.is) }
