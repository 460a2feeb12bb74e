-- The sender of a line that was read with decoding off: told where its bits were sent. Assumes nothing.
use Prim.Native.Nat.{ℕ, ◌≤◌, ◌<◌}
use mathlib.Core.Path.{◌≡◌, ap, ◌∙◌}
use mathlib.Core.List.{List}
use borrow.Author.Tests.{lt-ltb, le-ltb}
use Rattle.ais.specs.Call.{Called, called_in}
use Rattle.ais.specs.declared.Stepped.{Stepped}
use Rattle.std.specs.Prelude.{None, Some}
use Rattle.layout_answer.specs.Sender.{mmsi_of, sender_by}

short : (c : Called) → c.sentence.sent_bits < 38 → None ≡ sender_by c
short c h = rw (lt-ltb _ 38 h)

long : (c : Called) {m : ℕ} → 38 ≤ c.sentence.sent_bits → m ≡ mmsi_of c.payload → Some m ≡ sender_by c
long c h e = rw (le-ltb _ 38 h) (ap Some e)

-- from what the call returned and left in its buffers
module _ (s : Stepped) {payload bits : List ℕ} {called : Called} (e : called_in s payload bits ≡ called) where
  pub short-sender : s.answer.sentence.sent_bits < 38 → None ≡ sender_by called
  short-sender h = short (called_in s payload bits) h ∙ ap sender_by e

  pub long_sender : {m : ℕ} → 38 ≤ s.answer.sentence.sent_bits → m ≡ mmsi_of payload → Some m ≡ sender_by called
  long_sender h i = long (called_in s payload bits) h i ∙ ap sender_by e
