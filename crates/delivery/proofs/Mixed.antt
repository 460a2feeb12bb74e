-- What the premise is for: without it the first line of one message and the last line of another are handed out as complete, and that payload was never
-- sent. Assumes nothing.
use Prim.Native.Nat.{ℕ}
use native.Mathlib.Omega.{arith}
use mathlib.Core.Path.{◌≡◌, refl, sym, ap, ◌∙◌}
use mathlib.Core.List.{List, [], ◌∷◌, ◌++◌, Memᴰ}
use lib.ListN.{take, get_or, length-take, replicate}
use Rattle.std.specs.Prelude.{Some}
use Rattle.parsers.specs.Bits.{val, bit_at, cut, pack}
use Rattle.refusal.specs.Words.{taken}
use Rattle.reassembly.specs.Record.{fresh_record, empty_as, holding, join_of}
use Rattle.reassembly.specs.declared.Record.{Record}
use Rattle.reassembly.specs.declared.Part.{Part}
use Rattle.writer.specs.Message.{armoured, Message, Sendable, lines_in}
use Rattle.delivery.specs.Delivery.{Arrival, Answer, unfinished, complete, AllOurs, WasSent}
use Rattle.delivery.specs.Calls.{message_in, Received}
use Rattle.delivery.proofs.Lines.{own, said, fragment, own_short, of_several, last-fill}
use Rattle.delivery.proofs.Reader.{line, gives}
use Rattle.delivery.proofs.Holding.{held_of, held_before, is_last, joining, join_first}
use Rattle.delivery.proofs.Paper.{Beside, on_call, call_run, given_at, answers_are}
use Rattle.delivery.proofs.Sent.{sent_sendable}
use Rattle.delivery.proofs.Called.{handed_read, to_unfinished, to_last}
use Rattle.delivery.proofs.Made.{there}
use Rattle.delivery.proofs.Witness.{zeros, ones, zeros_lines, ones_lines, given}

-- two messages of two lines, with the same number
module _ (given : ℕ → Beside) (m k : Message) (s : Sendable m) (t : Sendable k) (two : lines_in m ≡ 2) (two-too : lines_in k ≡ 2)
    (same : m.number ≡ k.number) where
  both : List ℕ
  both = take 60 m.payload ++ own k 2

  first_held : on_call given 0 fresh_record (line m 1) ≡ gives unfinished (holding (Some k.number) 1 (take 60 m.payload))
  first_held =
      to_unfinished given 0 fresh_record m s 1 (omega arith) (omega arith) (fragment m 1) (of_several m 1 (omega arith)) (held_of m 1)
      (join_first m s (omega arith) fresh_record)
      ∙ ap (gives unfinished) (held_before m 1 (omega arith) ∙ ap (λ (n : ℕ). holding (Some n) 1 (take 60 m.payload)) same)

  second_joins : (r : Record) → r ≡ holding (Some k.number) 1 (take 60 m.payload)
      → join_of r (fragment k 2) (own k 2) ≡ record { told = taken Part.Last; after = holding (Some k.number) 2 both }
  unfolding both
  second_joins r e =
      rw e
      (is_last k (holding (Some k.number) 1 (take 60 m.payload)) 2 (omega arith) (sym two-too)
      ∙ joining Part.Last _ k.number (lines_in k) 1 (take 60 m.payload) (own k 2) (omega (arith, length-take 60 m.payload, own_short k 2)))

  second_handed : (r : Record) → r ≡ holding (Some k.number) 1 (take 60 m.payload)
      → on_call given 1 r (line k 2) ≡ gives (complete both k.fill) (empty_as (Some k.number) 2)
  second_handed r e =
      to_last given 1 r k t 2 (omega arith) (omega arith) (fragment k 2) (of_several k 2 (omega arith)) (holding (Some k.number) 2 both)
      (second_joins r e)
      ∙ handed_read both (replicate 384 0) (said k 2).fill_bit_count (empty_as (Some k.number) 2)
      ∙ ap (λ (fill : ℕ). gives (complete both fill) (empty_as (Some k.number) 2)) (last-fill k 2 (sym two-too))

  pub mixed : call_run given (line m 1 ∷ line k 2 ∷ []) ≡ unfinished ∷ complete (take 60 m.payload ++ own k 2) k.fill ∷ []
  unfolding both
  mixed = rw first_held (rw (second_handed _ refl))

-- the first 60 characters of the bits that are all 0, and the last one of those that are all 1
abbrev pub joined : List ℕ
joined = take 60 (message_in zeros).payload ++ own (message_in ones) 2

abbrev pub two_lines : List Arrival
two_lines = line (message_in zeros) 1 ∷ line (message_in ones) 2 ∷ []

abbrev pub two_answers : List Answer
two_answers = unfinished ∷ complete joined 0 ∷ []

-- both lines are our writer's
pub both_ours : AllOurs (message_in zeros ∷ message_in ones ∷ []) two_lines
both_ours a (Memᴰ.head e) = rw e (record { was_sent = Memᴰ.head refl; from_one = omega arith; to_last = omega (arith, zeros_lines) })
both_ours a (Memᴰ.tail (Memᴰ.head e)) =
    rw e (record { was_sent = Memᴰ.tail (Memᴰ.head refl); from_one = omega arith; to_last = omega (arith, ones_lines) })
both_ours a (Memᴰ.tail (Memᴰ.tail x)) = elim x [ ]

on_paper : (given : ℕ → Beside) → call_run given two_lines ≡ two_answers
on_paper given = mixed given (message_in zeros) (message_in ones) (sent_sendable zeros) (sent_sendable ones) zeros_lines ones_lines refl

-- MIXED UP: every run of calls on the first line of one message and then the last line of another one with the same number hands that out, and there is one
pub mixed_up : (answers : List Answer) → Received two_lines answers → answers ≡ two_answers
mixed_up answers v = answers_are two_lines answers v ∙ on_paper (given_at v.calls)

pub mixed_run : Received two_lines two_answers
mixed_run = there given two_lines two_answers (on_paper given) (tt, (tt, tt))

joined_is : (get_or joined 0 0 ≡ 48) × (get_or joined 60 0 ≡ 119)
unfolding armoured pack cut bit_at val
joined_is = (refl, refl)

payloads : (get_or (message_in zeros).payload 60 0 ≡ 48) × (get_or (message_in ones).payload 0 0 ≡ 119)
unfolding armoured pack cut bit_at val
payloads = (refl, refl)

-- AND IT WAS NEVER SENT
pub never_sent : (fill : ℕ) → WasSent (message_in zeros ∷ message_in ones ∷ []) joined fill → ⊥
never_sent fill w = by w.was_sent
  where
    same : (i : ℕ) (m : Message) → w.which ≡ m → get_or joined i 0 ≡ get_or m.payload i 0
    same i m e = ap (λ (l : List ℕ). get_or l i 0) (w.its-payload ∙ ap (λ (x : Message). x.payload) e)

    by : Memᴰ w.which (message_in zeros ∷ message_in ones ∷ []) → ⊥
    by (Memᴰ.head e) = let z : ◌≡◌ {A = ℕ} 119 48 = sym joined_is.1 ∙ same 60 (message_in zeros) e ∙ payloads.0 in omega arith
    by (Memᴰ.tail (Memᴰ.head e)) = let z : ◌≡◌ {A = ℕ} 48 119 = sym joined_is.0 ∙ same 0 (message_in ones) e ∙ payloads.1 in omega arith
    by (Memᴰ.tail (Memᴰ.tail x)) = elim x [ ]
