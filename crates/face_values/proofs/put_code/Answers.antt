-- `face_values::put_code` meets its contract. Assumes nothing.
use Rattle.std.proofs.Common.{rules}
use Rattle.text_out.proofs.Laws.{put_then}
use Rattle.face_values.proofs.put_code.Goals as goal

pub returns : goal.returns
returns c = record { same = search rules; is = put_then _ _ _ c.put_bytes.ensures.is c.put_hex.ensures.is }
