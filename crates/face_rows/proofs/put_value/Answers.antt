-- `face_rows::put_value` meets its contract where there is no value. Assumes nothing.
use mathlib.Core.Path.{refl, sym}
use Rattle.text_out.proofs.Laws.{put-nothing}
use Rattle.face_rows.proofs.put_value.Goals as goal

pub returns-in-Nothing : goal.returns-in-Nothing
returns-in-Nothing c = record { same = refl; is = rw c.in-Nothing.is (sym (put-nothing _)) }
