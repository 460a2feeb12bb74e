-- `face_values::put_signed` meets its contract. Assumes nothing.
use Rattle.std.proofs.Common.{rules}
use mathlib.Core.Path.{sym}
use Rattle.text_out.proofs.Laws.{put_then}
use Rattle.face_values.proofs.put_signed.Goals as goal

pub returns : goal.returns
returns c = record { same = search rules; is = put_then _ _ _ c.put_sign.ensures.is (rw (sym c.size-m.ensures) c.put_decimal.ensures.is) }
