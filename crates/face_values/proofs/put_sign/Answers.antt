-- `face_values::put_sign` meets its contract. Assumes nothing.
use Rattle.std.proofs.Common.{rules}
use mathlib.Core.Path.{sym}
use borrow.Author.Tests.{lt-ltb, le-ltb}
use Rattle.text_out.proofs.Laws.{put-nothing}
use Rattle.face_values.proofs.put_sign.Goals as goal

pub returns-then-n-lt9223372036854775808 : goal.returns-then-n-lt9223372036854775808
returns-then-n-lt9223372036854775808 c = record { same = search rules; is = rw (lt-ltb _ _ c.if-n-lt9223372036854775808.true) (sym (put-nothing _)) }

pub returns : goal.returns
returns c = record { same = search rules; is = rw (le-ltb _ _ c.if-n-lt9223372036854775808.false) c.put_byte.ensures.is }
