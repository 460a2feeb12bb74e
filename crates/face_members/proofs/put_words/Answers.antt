-- `face_members::put_words` meets its contract. Assumes nothing.
use Rattle.std.proofs.Common.{rules}
use mathlib.Core.Path.{sym, ◌∙◌}
use native.Mathlib.Omega.{arith}
use borrow.Author.Tests.{le-ltb}
use Rattle.face_members.proofs.Statuses.{reserved}
use Rattle.face_members.proofs.put_words.Goals as goal

pub returns-in-0 : goal.returns-in-0
returns-in-0 c = record { same = search rules; is = rw (sym c.number_at-n.ensures ∙ c.in-0.is) c.put_bytes.ensures.is }

pub returns-in-1 : goal.returns-in-1
returns-in-1 c = record { same = search rules; is = rw (sym c.number_at-n.ensures ∙ c.in-1.is) c.put_bytes-in-1.ensures.is }

pub returns-in-2 : goal.returns-in-2
returns-in-2 c = record { same = search rules; is = rw (sym c.number_at-n.ensures ∙ c.in-2.is) c.put_bytes-in-2.ensures.is }

pub returns-in-3 : goal.returns-in-3
returns-in-3 c = record { same = search rules; is = rw (sym c.number_at-n.ensures ∙ c.in-3.is) c.put_bytes-in-3.ensures.is }

pub returns-in-4 : goal.returns-in-4
returns-in-4 c = record { same = search rules; is = rw (sym c.number_at-n.ensures ∙ c.in-4.is) c.put_bytes-in-4.ensures.is }

pub returns-in-5 : goal.returns-in-5
returns-in-5 c = record { same = search rules; is = rw (sym c.number_at-n.ensures ∙ c.in-5.is) c.put_bytes-in-5.ensures.is }

pub returns-in-6 : goal.returns-in-6
returns-in-6 c = record { same = search rules; is = rw (sym c.number_at-n.ensures ∙ c.in-6.is) c.put_bytes-in-6.ensures.is }

pub returns-in-7 : goal.returns-in-7
returns-in-7 c = record { same = search rules; is = rw (sym c.number_at-n.ensures ∙ c.in-7.is) c.put_bytes-in-7.ensures.is }

pub returns-in-8 : goal.returns-in-8
returns-in-8 c = record { same = search rules; is = rw (sym c.number_at-n.ensures ∙ c.in-8.is) c.put_bytes-in-8.ensures.is }

pub returns-in-9 : goal.returns-in-9
returns-in-9 c = record { same = search rules; is = rw (sym c.number_at-n.ensures ∙ c.in-9.is) c.put_bytes-in-9.ensures.is }

pub returns-in-10 : goal.returns-in-10
returns-in-10 c = record { same = search rules; is = rw (sym c.number_at-n.ensures ∙ c.in-10.is) c.put_bytes-in-10.ensures.is }

pub returns-in-14 : goal.returns-in-14
returns-in-14 c = record { same = search rules; is = rw (sym c.number_at-n.ensures ∙ c.in-14.is) c.put_bytes-in-14.ensures.is }

pub returns-in-11-to-13 : goal.returns-in-11-to-13
returns-in-11-to-13 c = record {
  same = search rules;
  is = let n = c.number_at-n.result in
      rw (sym c.number_at-n.ensures, reserved n (omega arith) (omega arith)) c.put_bytes-in-11-to-13.ensures.is;
}

pub returns-in_default : goal.returns-in_default
returns-in_default c = record { same = search rules; is = let n = c.number_at-n.result in rw (sym c.number_at-n.ensures, le-ltb n 15 (omega arith)) c.put_bytes-in_default.ensures.is }
