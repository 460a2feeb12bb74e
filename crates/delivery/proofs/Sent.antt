-- Demand 3 of the calls of the code, whatever the writer was asked. Assumes nothing.
use Prim.Native.Nat.{ℕ}
use mathlib.Core.Path.{◌≡◌, sym, ap, ◌∙◌}
use mathlib.Core.Bool.{false}
use mathlib.Core.List.{List, [], ◌∷◌, map, Memᴰ}
use lib.ListN.{length, take}
use lib.Seq.{take_at}
use Rattle.refusal.specs.Words.{Told, left, over}
use Rattle.refusal.proofs.Order.{passed, taken_same}
use Rattle.writer.specs.Message.{Sendable, text_all}
use Rattle.writer.specs.Writer as writer
use Rattle.writer.specs.Writer.{outside, checks_of}
use Rattle.writer.proofs.Sendable.{sendable}
use Rattle.delivery.specs.Lines.{text_in, the_all_lines, cut_after_lf}
use Rattle.delivery.specs.Calls.{Sent, message_in, Demand3}
use Rattle.delivery.proofs.HandedOn.{cut_all}
use Rattle.delivery.proofs.Paper.{given_at, answers_are}
use Rattle.delivery.proofs.Called.{reads}
use Rattle.delivery.proofs.Effects.{AllSendable}
use Rattle.delivery.proofs.Safe.{safety}
use Rattle.delivery.proofs.Delivered.{delivery, delivery-alone}
use Rattle.delivery.proofs.Numbered.{numbered}

-- what the writer's contract says of a call that was answered with a count of bytes: the request was within its limits, and the lines stand first
module _ (s : Sent) where
  pub inside : outside s.request s.bytes ≡ false
  unfolding writer.answer_of
  inside = (passed (checks_of s.request s.bytes (length s.before)) _ s.count (sym s.keeps.answers)).0

  long : length (text_all (message_in s)) ≡ s.count
  unfolding writer.answer_of
  long = taken_same (checks_of s.request s.bytes (length s.before)) _ s.count (sym s.keeps.answers)

  stands : s.out ≡ over (text_all (message_in s)) s.before
  stands = s.keeps.leaves ∙ ap (λ (t : Told ℕ). left t (text_all (message_in s)) s.before) (sym s.keeps.answers)

  first : take s.count s.out ≡ text_all (message_in s)
  first = rw stands (take_at (text_all (message_in s)) _ s.count long)

  pub sent_sendable : Sendable (message_in s)
  sent_sendable = sendable s.request s.bytes inside

  pub written : cut_after_lf (take s.count s.out) ≡ map text_in (the_all_lines (message_in s))
  written = ap cut_after_lf first ∙ cut_all (message_in s) sent_sendable

all_sendable : (sent : List Sent) → AllSendable (map message_in sent)
all_sendable [] m x = elim x [ ]
all_sendable (s ∷ sent) m (Memᴰ.head e) = rw e (sent_sendable s)
all_sendable (s ∷ sent) m (Memᴰ.tail t) = all_sendable sent m t

pub demand3_holds : Demand3
demand3_holds = record {
  safety = λ sent arrivals u answers v.
      safety (reads (given_at v.calls)) (map message_in sent) (all_sendable sent) arrivals u answers (answers_are arrivals answers v);
  delivery = λ sent arrivals u answers v.
      delivery (reads (given_at v.calls)) (map message_in sent) (all_sendable sent) arrivals u answers (answers_are arrivals answers v);
  alone = λ sent arrivals u answers v.
      delivery-alone (reads (given_at v.calls)) (map message_in sent) (all_sendable sent) arrivals u answers (answers_are arrivals answers v);
  numbered = λ sent arrivals d w. numbered (map message_in sent) d arrivals w;
  written = written;
}
