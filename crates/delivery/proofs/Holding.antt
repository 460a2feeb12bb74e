-- The record while the first lines of a message are held, and what the record's rules make of each further line. Assumes nothing.
use Prim.Native.Nat.{ℕ, ◌+◌, ◌-◌, ◌*◌, ◌≤◌, ◌<◌}
use native.Mathlib.Omega.{arith}
use native.Mathlib.Decide.{ℕ_discrete}
use mathlib.Core.Path.{◌≡◌, refl, sym, ap, ◌∙◌}
use mathlib.Core.Logic.{◌≢◌}
use mathlib.Core.List.{List, [], ◌++◌}
use lib.ListN.{length, take, drop, replicate, length-append}
use lib.Seq.{take-append_seam, drop-append-add, drop-drop}
use lib.Dec.{eqb}
use borrow.Author.Tests.{lt-ltb, le-ltb, eq-eqb, ne_eqb}
use Rattle.std.specs.Prelude.{Option, Some}
use Rattle.refusal.specs.Words.{pick, taken, refused, over}
use Rattle.reassembly.specs.Record.{record_of, empty_as, holding, fresh_record, added, several_of, join_of}
use Rattle.reassembly.specs.declared.Record.{Record}
use Rattle.reassembly.specs.declared.Part.{Part}
use Rattle.reassembly.proofs.Laws.{to_4, to_5, to_taken}
use Rattle.writer.specs.Message.{Message, Sendable, lines_in}
use Rattle.delivery.proofs.Lines.{own, fragment, single, all_lines, joins, room, own_short}

-- the bytes held: those of the first j lines of m; none once the last line has come
abbrev pub held_bytes : Message → ℕ → List ℕ
held_bytes m j = pick (eqb j (lines_in m)) [] (take (60 * j) m.payload)

-- the record after the first j lines of m, in order
unfoldable pub held_of : Message → ℕ → Record
held_of m j = holding (Some m.number) j (held_bytes m j)

-- what is added stands after the bytes held
module _ (number : Option ℕ) (j k : ℕ) (held own : List ℕ) where
  zeros : List ℕ
  zeros = replicate 384 0

  added-bytes : over (take (length held) (over held zeros) ++ own) (over held zeros) ≡ over (held ++ own) zeros
  added-bytes =
      rw (
        take-append_seam held (drop (length held) zeros),
        length-append held own,
        drop-append-add held (drop (length held) zeros) (length own),
        drop-drop (length own) (length held) zeros,
      )

  pub added_held : added (holding number j held) k own ≡ holding number k (held ++ own)
  unfolding zeros
  added_held = rw (← length-append held own) (ap (λ (bytes : List ℕ). record_of number k (length (held ++ own)) bytes) added-bytes)

-- a line of several, by its place
module _ (m : Message) (r : Record) (i : ℕ) where
  is-first : 1 < lines_in m → join_of r (fragment m 1) (own m 1) ≡ several_of Part.Unfinished r (holding (Some m.number) 0 []) (fragment m 1) (own m 1)
  unfolding join_of
  is-first h = rw (lt-ltb 1 (lines_in m) h)

  is-next : i ≢ 1 → i < lines_in m → join_of r (fragment m i) (own m i) ≡ several_of Part.Unfinished r r (fragment m i) (own m i)
  unfolding join_of
  is-next n h = rw (lt-ltb i (lines_in m) h, ne_eqb i 1 n)

  pub is_last : 1 < lines_in m → i ≡ lines_in m → join_of r (fragment m i) (own m i) ≡ several_of Part.Last r r (fragment m i) (own m i)
  unfolding join_of
  is_last h e = rw (le-ltb i (lines_in m) (omega arith), ne_eqb (lines_in m) 1 (omega arith))

-- the next line of the message whose lines are held joins them
pub joining : (part : Part) (found : Record) (n total j : ℕ) (held own : List ℕ) → length held + length own ≤ 384
    → several_of part found (holding (Some n) j held) (record { num_fragments = total; fragment_number = j + 1; message_id = Some n }) own
    ≡ record { told = taken part; after = holding (Some n) (j + 1) (held ++ own) }
joining part found n total j held own h =
    to_taken found (holding (Some n) j held) (record { num_fragments = total; fragment_number = j + 1; message_id = Some n }) part own
    (eq-eqb n n refl) refl h
    ∙ ap (λ (r : Record). record { told = taken part; after = r }) (added_held (Some n) j (j + 1) held own)

module _ (m : Message) where
  -- before the last line has come, and after it
  pub held_before : (j : ℕ) → j < lines_in m → held_of m j ≡ holding (Some m.number) j (take (60 * j) m.payload)
  unfolding held_of
  held_before j l = rw (ne_eqb j (lines_in m) (omega arith))

  pub held_last : (j : ℕ) → j ≡ lines_in m → held_of m j ≡ empty_as (Some m.number) j
  unfolding held_of
  held_last j e = rw (eq-eqb j (lines_in m) e)

  module _ (s : Sendable m) (several : 1 < lines_in m) where
    pub join_first : (r : Record) → join_of r (fragment m 1) (own m 1) ≡ record { told = taken Part.Unfinished; after = held_of m 1 }
    join_first r = rw (held_before 1 several) (is-first m r 1 several ∙ joining Part.Unfinished r m.number (lines_in m) 0 [] (own m 1) (room m s 0))

    -- line j + 1 joins the j lines held
    join_more : (part : Part) (j : ℕ) → j < lines_in m → several_of part (held_of m j) (held_of m j) (fragment m (j + 1)) (own m (j + 1))
        ≡ record { told = taken part; after = holding (Some m.number) (j + 1) (take (60 * (j + 1)) m.payload) }
    join_more part j l =
        let back : j + 1 - 1 ≡ j = omega arith in
        rw (held_before j l, back, ← joins m j)
        (joining part _ m.number (lines_in m) j (take (60 * j) m.payload) (take 60 (drop (60 * j) m.payload)) (room m s j))

    pub join_next_lem : (j : ℕ) → 1 ≤ j → j + 1 < lines_in m
        → join_of (held_of m j) (fragment m (j + 1)) (own m (j + 1)) ≡ record { told = taken Part.Unfinished; after = held_of m (j + 1) }
    join_next_lem j h l =
        is-next m (held_of m j) (j + 1) (omega arith) l ∙ join_more Part.Unfinished j (omega arith)
        ∙ ap (λ (r : Record). record { told = taken Part.Unfinished; after = r }) (sym (held_before (j + 1) l))

    pub join_last : (j : ℕ) → 1 ≤ j → j + 1 ≡ lines_in m
        → join_of (held_of m j) (fragment m (j + 1)) (own m (j + 1))
        ≡ record { told = taken Part.Last; after = holding (Some m.number) (j + 1) m.payload }
    join_last j h e =
        is_last m (held_of m j) (j + 1) several e ∙ join_more Part.Last j (omega arith)
        ∙ ap (λ (xs : List ℕ). record { told = taken Part.Last; after = holding (Some m.number) (j + 1) xs }) (all_lines m (j + 1) e)

    -- a line that is not a first one is checked against the record as found, and 4 and 5 leave it so
    not_first : (r : Record) (i n : ℕ) → 2 ≤ i → i ≤ lines_in m
        → ((part : Part) → several_of part r r (fragment m i) (own m i) ≡ record { told = refused n []; after = r })
        → join_of r (fragment m i) (own m i) ≡ record { told = refused n []; after = r }
    not_first r i n h l e = go (ℕ_discrete i (lines_in m))
      where
        go : Dec (i ≡ lines_in m) → join_of r (fragment m i) (own m i) ≡ record { told = refused n []; after = r }
        go (yes q) = is_last m r i several q ∙ e Part.Last
        go (no d) = is-next m r i (omega arith) (omega arith) ∙ e Part.Unfinished

    pub join_out-of_order : (j i : ℕ) → 2 ≤ i → i ≤ lines_in m → i ≢ j + 1
        → join_of (held_of m j) (fragment m i) (own m i) ≡ record { told = refused 5 []; after = held_of m j }
    unfolding held_of
    join_out-of_order j i h l d =
        not_first (held_of m j) i 5 h l (λ part. to_5 (held_of m j) (held_of m j) (fragment m i) part (own m i) (eq-eqb m.number m.number refl) d)

    pub join_other : (k : Message) (j i : ℕ) → 2 ≤ i → i ≤ lines_in m → k.number ≢ m.number
        → join_of (held_of k j) (fragment m i) (own m i) ≡ record { told = refused 4 []; after = held_of k j }
    unfolding held_of
    join_other k j i h l d =
        not_first (held_of k j) i 4 h l (λ part. to_4 (held_of k j) (held_of k j) (fragment m i) part (own m i) (ne_eqb k.number m.number d))

    pub join_fresh : (i : ℕ) → 2 ≤ i → i ≤ lines_in m → join_of fresh_record (fragment m i) (own m i) ≡ record { told = refused 4 []; after = fresh_record }
    join_fresh i h l = not_first fresh_record i 4 h l (λ part. to_4 fresh_record fresh_record (fragment m i) part (own m i) refl)

-- a single line is handed out, and the record stays
pub join_single : (m : Message) (r : Record) → join_of r single (own m 1) ≡ record { told = taken Part.Alone; after = r }
unfolding join_of
join_single m r = rw (le-ltb 384 (length (own m 1)) (omega (arith, own_short m 1)))
