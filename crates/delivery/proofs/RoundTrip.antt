-- The round trip: what the writer's contract gives, read by the calls of `ais` and unarmored, is the bits again. Assumes nothing.
use Rattle.std.proofs.Common.{Result, Ok}
use Prim.Native.Nat.{ℕ, ◌≤◌}
use native.Mathlib.Omega.{arith}
use mathlib.Core.Path.{◌≡◌, refl, ◌∙◌}
use mathlib.Core.Bool.{false}
use mathlib.Core.List.{List, map}
use lib.ListN.{length, drop}
use lib.Seq.{take_at}
use Rattle.refusal.specs.Words.{taken, over}
use Rattle.armour.specs.Armour.{size, unarmored}
use Rattle.armour.specs.Unarmor.{answer_of, Unarmors}
use Rattle.refusal.specs.declared.Refusal.{Refusal}
use Rattle.armour.proofs.Laws.{unarmored-length}
use Rattle.armour.proofs.Answers.{fill-some, says-taken, answered-by}
use Rattle.armour.proofs.Unique.{unique}
use Rattle.writer.specs.Message.{chars_in, fill_in, armoured, Sendable}
use Rattle.writer.specs.Writer.{outside, message_of}
use Rattle.writer.specs.declared.Request.{Request}
use Rattle.writer.proofs.Armoured.{length-armoured, armoured_good, bits_back}
use Rattle.writer.proofs.Sendable.{sendable}
use Rattle.delivery.specs.Lines.{the_all_lines}
use Rattle.delivery.specs.Calls.{message_in, answer_in, Received}
use Rattle.delivery.specs.RoundTrip.{BitsBack, RoundTrip}
use Rattle.delivery.proofs.Paper.{given_at, answers_are}
use Rattle.delivery.proofs.Sent.{inside, sent_sendable, written}
use Rattle.delivery.proofs.Called.{reads}
use Rattle.delivery.proofs.InOrder.{read-alone}

-- the characters of n bits, unarmored with their fill
module _ (q : Request) (d : List ℕ) (inside : outside q d ≡ false) where
  abbrev payload : List ℕ
  payload = armoured d q.count

  abbrev fill : ℕ
  fill = fill_in q.count

  pub back : (out : List ℕ) (r : Result ℕ Refusal) (out' : List ℕ) → size (length payload) ≤ length out
      → Unarmors payload fill out r out' → BitsBack q.count d r out'
  back out r out' h u = record {
    bytes = size (length payload);
    told = same.0;
    enough = omega (arith, long);
    bits = λ i.
        rw (
          same.1,
          take_at (unarmored payload fill) (drop (length (unarmored payload fill)) out) (size (length payload)) (unarmored-length payload fill),
        )
        (bits_back d q.count i);
  }
    where
      s : Sendable (message_of q d)
      s = sendable q d inside

      long : length payload ≡ chars_in q.count
      long = length-armoured d q.count

      says : answer_of payload fill (length out) ≡ taken (size (length payload))
      says =
          says-taken payload fill (length out) (fill-some payload fill s.fill-small (λ e. omega (arith, s.some-payload))) s.fits h
          (omega (arith, armoured_good d q.count))

      same : (r ≡ Ok (size (length payload))) × (out' ≡ over (unarmored payload fill) out)
      same =
          unique payload fill out r (Ok (size (length payload))) out' (over (unarmored payload fill) out) u
          (answered-by payload fill out (taken (size (length payload))) says refl refl)

pub round_trip_holds : RoundTrip
round_trip_holds s calls run = record {
  payload = armoured s.bytes s.request.count;
  fill = fill_in s.request.count;
  read = answers_are (the_all_lines (message_in s)) _ received ∙ read-alone (reads (given_at calls)) (message_in s) (sent_sendable s);
  back = back s.request s.bytes (inside s);
}
  where
    received : Received (the_all_lines (message_in s)) (map answer_in calls)
    received = record { calls = calls; run = rw (written s) at run; read_off = refl }
