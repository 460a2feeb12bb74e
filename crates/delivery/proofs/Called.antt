-- The calls of `ais` on lines of ours: each is the record's step on the line, so they are a reader of demand 3. Assumes nothing.
use Prim.Native.Nat.{ℕ, ◌+◌, ◌≤◌}
use native.Mathlib.Omega.{arith}
use mathlib.Core.Path.{◌≡◌, refl, sym, ap, ap₂, ◌∙◌}
use mathlib.Core.List.{List}
use lib.ListN.{length, take, drop, replicate}
use lib.Seq.{take-append_seam}
use Rattle.std.specs.Prelude.{Some}
use Rattle.refusal.specs.Words.{Told, taken, over}
use Rattle.refusal.specs.Refusal.{told, row_of}
use Rattle.refusal.specs.declared.Refusal.{Refusal}
use Rattle.sentence.specs.Written.{Writable}
use Rattle.sentence.proofs.ReadBack.{ended_by, read_back, payload-back}
use Rattle.reassembly.specs.Record.{Join, empty_as, holding, fresh_record, emptied_of, join_of}
use Rattle.reassembly.specs.declared.Record.{Record}
use Rattle.reassembly.specs.declared.Fragment.{Fragment}
use Rattle.reassembly.specs.declared.Part.{Part}
use Rattle.answer.specs.declared.Decode.{Decode}
use Rattle.ais.specs.Call.{fragment_of, called_of}
use Rattle.ais.specs.Parts.{finished_of, received_of}
use Rattle.ais.proofs.Called.{to_received}
use Rattle.ais.proofs.Received.{received_refused, received_unfinished, received_alone, received_last}
use Rattle.writer.specs.Message.{Message, Sendable, lines_in, parts_of, text_of}
use Rattle.writer.proofs.Sendable.{writable}
use Rattle.delivery.specs.Delivery.{Answer, unfinished, complete}
use Rattle.delivery.specs.Lines.{end_text}
use Rattle.delivery.proofs.Reader.{Reader, line, gives}
use Rattle.delivery.proofs.HandedOn.{ends_well, handed_on_lem, handed_short}
use Rattle.delivery.proofs.Paper.{seen, Beside, on_call}
use Rattle.delivery.proofs.Lines.{own, said, fragment, single, all_lines, own_is, of_several, last-fill, of-single}
use Rattle.delivery.proofs.Holding.{held_of, held_last, join_single, join_first, join_next_lem, join_last, join_out-of_order, join_other, join_fresh}

-- what stands first in a buffer is read off it again
pub handed_read : (xs buffer : List ℕ) (fill : ℕ) (after : Record)
    → gives (complete (take (length xs) (over xs buffer)) fill) after ≡ gives (complete xs fill) after
handed_read xs buffer fill after = ap (λ (ys : List ℕ). gives (complete ys fill) after) (take-append_seam xs (drop (length xs) buffer))

-- a line of ours, with large buffers lent: what is seen is the record's step on its sentence and its payload
module _ (given : ℕ → Beside) (p : ℕ) (r : Record) (m : Message) (s : Sendable m) (i : ℕ) (h : 1 ≤ i) (l : i ≤ lines_in m) where
  w : Writable (parts_of m i)
  w = writable m s i h l

  -- its text as it is handed on
  abbrev handed : List ℕ
  handed = ended_by (parts_of m i) (end_text (given p).ends)

  call_is : on_call given p r (line m i) ≡ seen (received_of r (said m i) (own m i) Decode.Off (given p).lent.payload (given p).lent.bits)
  unfolding on_call text_of
  call_is =
      let payload = (given p).lent.payload in
      let bits = (given p).lent.bits in
      let tail = end_text (given p).ends in
      ap (λ (text : List ℕ). seen (called_of r text Decode.Off payload bits)) (handed_on_lem (parts_of m i) (given p).ends)
      ∙ ap seen
      (sym (to_received r handed Decode.Off payload bits (given p).lent.payload_large (given p).lent.bits_large
      (handed_short m s i h l (given p).ends) (said m i)
      (read_back (parts_of m i) w tail (ends_well (given p).ends)) refl)
      ∙ ap (λ (xs : List ℕ). received_of r (said m i) xs Decode.Off payload bits) (payload-back (parts_of m i) w tail ∙ own_is m i))

  -- the ways out, by what the record's rules make of the line
  module _ (f : Fragment) (e : fragment_of (said m i) ≡ f) (after : Record) where
    its_join : (t : Told Part) → join_of r f (own m i) ≡ record { told = t; after = after }
        → join_of r (fragment_of (said m i)) (own m i) ≡ record { told = t; after = after }
    its_join t q = rw e q

    its-told : (t : Told Part) → join_of r f (own m i) ≡ record { told = t; after = after } → (join_of r (fragment_of (said m i)) (own m i)).told ≡ t
    its-told t q = ap (λ (j : Join). j.told) (its_join t q)

    its-after : (t : Told Part) → join_of r f (own m i) ≡ record { told = t; after = after } → (join_of r (fragment_of (said m i)) (own m i)).after ≡ after
    its-after t q = ap (λ (j : Join). j.after) (its_join t q)

    to_refused : (refusal : Refusal) → join_of r f (own m i) ≡ record { told = told refusal; after = after }
        → on_call given p r (line m i) ≡ gives (Answer.refused (row_of refusal).number) after
    to_refused refusal q =
        call_is
        ∙ ap seen (received_refused r (said m i) (own m i) _ _ (its-told (told refusal) q) Decode.Off (given p).lent.payload (given p).lent.bits)
        ∙ ap (λ (a : Record). gives (Answer.refused (row_of refusal).number) a) (its-after (told refusal) q)

    pub to_unfinished : join_of r f (own m i) ≡ record { told = taken Part.Unfinished; after = after } → on_call given p r (line m i) ≡ gives unfinished after
    to_unfinished q =
        call_is
        ∙ ap seen (received_unfinished r (said m i) (own m i) Decode.Off (given p).lent.payload (given p).lent.bits (its-told (taken Part.Unfinished) q))
        ∙ ap (λ (a : Record). gives unfinished a) (its-after (taken Part.Unfinished) q)

    pub to_last : join_of r f (own m i) ≡ record { told = taken Part.Last; after = after }
        → on_call given p r (line m i) ≡ gives (complete (take after.len after.bytes) (said m i).fill_bit_count) (emptied_of after)
    to_last q =
        call_is
        ∙ ap seen (received_last r (said m i) (own m i) Decode.Off (given p).lent.payload (given p).lent.bits (its-told (taken Part.Last) q))
        ∙ ap (λ (a : Record). seen (finished_of (emptied_of a) (said m i) (take a.len a.bytes) Decode.Off (given p).lent.payload (given p).lent.bits))
        (its-after (taken Part.Last) q)
        ∙ handed_read (take after.len after.bytes) (given p).lent.payload (said m i).fill_bit_count (emptied_of after)

    to_alone : join_of r f (own m i) ≡ record { told = taken Part.Alone; after = after }
        → on_call given p r (line m i) ≡ gives (complete (own m i) (said m i).fill_bit_count) after
    to_alone q =
        call_is
        ∙ ap seen (received_alone r (said m i) (own m i) Decode.Off (given p).lent.payload (given p).lent.bits (its-told (taken Part.Alone) q))
        ∙ ap (λ (a : Record). seen (finished_of a (said m i) (own m i) Decode.Off (given p).lent.payload (given p).lent.bits))
        (its-after (taken Part.Alone) q)
        ∙ handed_read (own m i) (given p).lent.payload (said m i).fill_bit_count after

-- what is seen of a last line
module _ (m : Message) (i : ℕ) where
  last_seen : i ≡ lines_in m
      → gives (complete (take (length m.payload) (over m.payload (replicate 384 0))) (said m i).fill_bit_count) (empty_as (Some m.number) i)
      ≡ gives (complete m.payload m.fill) (held_of m i)
  last_seen e =
      handed_read m.payload (replicate 384 0) (said m i).fill_bit_count (empty_as (Some m.number) i)
      ∙ ap₂ (λ (fill : ℕ) (r : Record). gives (complete m.payload fill) r) (last-fill m i e) (sym (held_last m i e))

pub reads : (given : ℕ → Beside) → Reader (on_call given) fresh_record
reads given = record {
  held = held_of;
  alone = λ m s p r e.
      to_alone given p r m s 1 (omega arith) (omega arith) single (of-single m e) r (join_single m r) ∙ rw (all_lines m 1 (sym e), last-fill m 1 (sym e));
  first = λ m s p r h. to_unfinished given p r m s 1 (omega arith) (omega arith) (fragment m 1) (of_several m 1 h) (held_of m 1) (join_first m s h r);
  next = λ m s p j h l.
      to_unfinished given p (held_of m j) m s (j + 1) (omega arith) (omega arith) (fragment m (j + 1)) (of_several m (j + 1) (omega arith)) (held_of m (j + 1))
      (join_next_lem m s (omega arith) j h l);
  last = λ m s p j h e.
      to_last given p (held_of m j) m s (j + 1) (omega arith) (omega arith) (fragment m (j + 1)) (of_several m (j + 1) (omega arith))
      (holding (Some m.number) (j + 1) m.payload) (join_last m s (omega arith) j h e)
      ∙ last_seen m (j + 1) e;
  out_of_order = λ m s p j i h l d.
      to_refused given p (held_of m j) m s i (omega arith) l (fragment m i) (of_several m i (omega arith)) (held_of m j) Refusal.FragmentNumber
      (join_out-of_order m s (omega arith) j i h l d);
  other-number = λ m s k p j i h l d.
      to_refused given p (held_of k j) m s i (omega arith) l (fragment m i) (of_several m i (omega arith)) (held_of k j) Refusal.MessageNumber
      (join_other m s (omega arith) k j i h l d);
  at-fresh = λ m s p i h l.
      to_refused given p fresh_record m s i (omega arith) l (fragment m i) (of_several m i (omega arith)) fresh_record Refusal.MessageNumber
      (join_fresh m s (omega arith) i h l);
}
