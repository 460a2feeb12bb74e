-- The ways out of reading a line. Assumes nothing.
use mathlib.Core.Path.{◌≡◌, refl, sym, ap, subst, ◌∙◌}
use mathlib.Core.Bool.{Bool}
use mathlib.Core.List.{List, ◌++◌}
use Prim.Native.Nat.{ℕ, ◌+◌, ◌-◌, ◌≤◌, ◌<◌}
use native.Mathlib.Omega.{arith}
use borrow.Author.Tests.{lt-ltb, le-ltb}
use lib.ListN.{length, take, drop, length-append, length-drop}
use lib.Seq.{length-take-le, take-take}
use Rattle.std.specs.Prelude.{Result}
use Rattle.refusal.specs.Words.{Told, taken, over}
use Rattle.refusal.specs.Refusal.{told}
use Rattle.refusal.specs.declared.Refusal.{Refusal}
use Rattle.text_out.specs.Text.{Text, text, put}
use Rattle.text_out.proofs.Laws.{put-fits}
use Rattle.sentence.specs.Line.{payload_of}
use Rattle.sentence.specs.declared.AisSentence.{AisSentence}
use Rattle.reassembly.specs.Record.{emptied_of, joined_bytes, added, part_in, join_in, join_of}
use Rattle.reassembly.specs.declared.Record.{Record}
use Rattle.reassembly.specs.declared.Part.{Part}
use Rattle.reassembly.specs.declared.Fragment.{Fragment}
use Rattle.reassembly.specs.declared.Joined.{Joined}
use Rattle.reassembly.proofs.Laws.{taken-part, taken-passed}
use Rattle.answer.specs.Answer.{Heard, refuses, complete_of, unfinished_of, decode_of}
use Rattle.answer.specs.declared.Decode.{Decode}
use Rattle.answer.specs.declared.Answer.{Answer}
use Rattle.ais.specs.Call.{Called, called_in, fragment_of, called_by, called_of}
use Rattle.ais.specs.Parts.{check_of, stepped, handing, handing_of}
use Rattle.ais.specs.declared.Stepped.{Stepped}
use Rattle.ais.proofs.Called.{line_refused, its-given, its_large, line_received}
use Rattle.ais.proofs.Received.{receiving_line, handing-by, last-room, last-after}
use Rattle.record_bytes.specs.Bytes.{record_in, the_record_bytes, loaded_of, stored_of}
use Rattle.record_bytes.specs.Joined.{Joins}
use Rattle.record_bytes.proofs.Placed.{joins_as}
use Rattle.record_bytes.proofs.Kept.{bytes_count, kept, stored_again}
use Rattle.layout_message.specs.Message.{message_texts}
use Rattle.layout_answer.specs.Answer.{answer_numbers, Tells, told_in, told_of}
use Rattle.layout_answer.proofs.Counts.{answer-length}
use Rattle.layout_told.specs.Told.{Hears}
use Rattle.record_read.specs.Read.{Leaves, Reads, Ends, read_in, flattened, read_of}

-- numbers or bytes that fit, put from the start on, stand first
pub first : (s lent : List ℕ) → length s ≤ length lent → (put (text 0 lent) s).bytes ≡ over s lent
first s lent h =
    let z : 0 + length s ≡ length s = omega arith in
    ap (λ (x : Text). x.bytes) (put-fits 0 lent s (omega (arith, h))) ∙ rw z

module _ (state line : List ℕ) (decode : Bool) (payload bits numbers texts : List ℕ) where
  pub record_short : length state < 400 → read_in 12 state payload bits numbers texts ≡ read_of state line decode payload bits numbers texts
  unfolding read_of
  record_short h = rw (lt-ltb (length state) 400 h)

  module _ (a : 400 ≤ length state) where
    pub numbers-short : length numbers < 50 → read_in 12 state payload bits numbers texts ≡ read_of state line decode payload bits numbers texts
    unfolding read_of
    numbers-short h = rw (le-ltb (length state) 400 a, lt-ltb (length numbers) 50 h)

    module _ (b : 50 ≤ length numbers) where
      pub texts-short : length texts < 80 → read_in 12 state payload bits numbers texts ≡ read_of state line decode payload bits numbers texts
      unfolding read_of
      texts-short h = rw (le-ltb (length state) 400 a, le-ltb (length numbers) 50 b, lt-ltb (length texts) 80 h)

      -- long enough: the reader's own call, flattened part by part
      pub read-flattened : 80 ≤ length texts → (a : Answer) {state' payload' bits' : List ℕ}
          → Leaves (called_of (record_in state) line (decode_of decode) payload bits) state a state' payload' bits'
          → {code : ℕ} {numbers' texts' : List ℕ} → told_in code numbers' texts' ≡ told_of a numbers texts → length (message_texts a.message) ≡ 80
          → read_in code state' payload' bits' numbers' texts' ≡ read_of state line decode payload bits numbers texts
      unfolding read_of
      read-flattened h x q t k =
          let all = first (answer_numbers x) numbers (omega (arith, answer-length x, b)) in
          let shown = first (message_texts x.message) texts (omega (arith, k, h)) in
          rw (le-ltb (length state) 400 a, le-ltb (length numbers) 50 b, le-ltb (length texts) 80 h, q.stored)
          (rw (ap (λ (y : Tells). y.code) t, ap (λ (y : Tells). y.numbers) t, all, ap (λ (y : Tells). y.texts) t, shown)
          (ap (λ (c : Called). flattened c state numbers texts) q.answered))

-- the bytes of a record with a payload joined are as many as before
joined_full : (d : List ℕ) (len : ℕ) (p : List ℕ) → length d ≡ 384 → len + length p ≤ 384 → length (joined_bytes d len p) ≡ 384
joined_full d len p k fits =
    let l : length (take len d ++ p) ≡ len + length p =
    length-append (take len d) p ∙ ap (λ (n : ℕ). n + length p) (length-take-le len d (omega (arith, k, fits))) in
    length-append (take len d ++ p) (drop (length (take len d ++ p)) d) ∙ omega (arith, l, length-drop (length (take len d ++ p)) d, k, fits)

-- the bytes held, where they lie
pub held_part : (state : List ℕ) (n : ℕ) → 400 ≤ length state → n ≡ (loaded_of state).len → n ≤ 384
    → take (16 + n - 16) (drop 16 state) ≡ take (loaded_of state).len (loaded_of state).bytes
unfolding record_in
held_part state n room e few =
    let m : 16 + n - 16 ≡ n = omega arith in
    let f : loaded_of state ≡ record_in state = rw (le-ltb (length state) 400 room) in
    rw (m, sym e, f) (sym (take-take n 384 (drop 16 state) few))

pub hears_as : {h k : Heard} {numbers texts : List ℕ} {code : ℕ} {payload' bits' numbers' texts' : List ℕ} → h ≡ k
    → Hears h numbers texts code payload' bits' numbers' texts' → Hears k numbers texts code payload' bits' numbers' texts'
hears_as e x = record { answer = x.answer; heard = x.heard ∙ e; told = x.told; texted = x.texted }

-- what a call leaves, with the record that is loaded
module _ (state : List ℕ) (w : 400 ≤ length state) where
  loaded_is : loaded_of state ≡ record_in state
  loaded_is = rw (le-ltb (length state) 400 w)

  stored_is : (r : Record) → stored_of r state ≡ over (the_record_bytes r) state
  stored_is r = rw (le-ltb (length state) 400 w)

  record_full : length (record_in state).bytes ≡ 384
  unfolding record_in
  record_full = length-take-le 384 (drop 16 state) (omega (arith, length-drop 16 state, w))

  -- with the record as it was found
  leaves_kept : (c : Called) (a : Answer) (state' payload' bits' : List ℕ) → state' ≡ stored_of (loaded_of state) state
      → called_in (stepped (record_in state) a) payload' bits' ≡ c
      → Leaves c state a state' payload' bits'
  leaves_kept c a state' payload' bits' p q =
      let z : c.after ≡ record_in state = ap (λ (x : Called). x.after) (sym q) in
      record {
        answered = ap (λ (r : Record). called_in (stepped r a) payload' bits') z ∙ q;
        stored = p ∙ ap (λ (r : Record). stored_of r state) loaded_is ∙ stored_is (record_in state) ∙ ap (λ (r : Record). over (the_record_bytes r) state) (sym z);
      }

  module _ (payload bits : List ℕ) (decode : Decode) where
    module _ (s : AisSentence) (own : List ℕ) where
      leaves_received : (found : Record) → found ≡ loaded_of state → (r : Stepped) (state' payload' bits' : List ℕ)
          → called_in r payload' bits' ≡ handing_of found s own decode payload bits
          → state' ≡ stored_of r.state state → Leaves (handing_of (record_in state) s own decode payload bits) state r.answer state' payload' bits'
      leaves_received found f r state' payload' bits' e p =
          let q : called_in r payload' bits' ≡ handing_of (record_in state) s own decode payload bits =
          e ∙ ap (λ (x : Record). handing_of x s own decode payload bits) (f ∙ loaded_is) in
          let z : (handing_of (record_in state) s own decode payload bits).after ≡ r.state = ap (λ (x : Called). x.after) (sym q) in
          record {
            answered = ap (λ (x : Record). called_in (stepped x r.answer) payload' bits') z ∙ q;
            stored = p ∙ stored_is r.state ∙ ap (λ (x : Record). over (the_record_bytes x) state) (sym z);
          }

      -- the record joined where it lies
      module _ (r : Result Part Refusal) (state₁ : List ℕ) (f : Fragment) (g : f ≡ fragment_of s) (j : Joins (join_of (loaded_of state) f own) state r state₁) where
        q : Joins (join_of (loaded_of state) (fragment_of s) own) state r state₁
        q = joins_as _ _ (ap (λ (x : Fragment). join_of (loaded_of state) x own) g) j

        abbrev after : Record
        after = (join_of (loaded_of state) (fragment_of s) own).after

        abbrev joined : Joined
        joined = record { state = after; outcome = r }

        joined_is : join_in joined ≡ join_of (loaded_of state) (fragment_of s) own
        joined_is = rw q.told

        leaves_by : (t : Told Part) → part_in r ≡ t → (a : Answer) (left : Record) (state' payload' bits' : List ℕ)
            → called_in (stepped left a) payload' bits' ≡ handing t after s own decode payload bits
            → state' ≡ stored_of left state → Leaves (handing_of (record_in state) s own decode payload bits) state a state' payload' bits'
        leaves_by t e a left state' payload' bits' h p =
            leaves_received (loaded_of state) refl (stepped left a) state' payload' bits'
            (h ∙ handing-by (loaded_of state) s own joined joined_is t e decode payload bits) p

        pub reads_refused : (refusal : Refusal) → part_in r ≡ told refusal → {numbers texts : List ℕ} {code : ℕ} {numbers' texts' : List ℕ}
            → told_in code numbers' texts' ≡ told_of (refuses refusal) numbers texts
            → Reads (handing_of (record_in state) s own decode payload bits) state numbers texts code state₁ payload bits numbers' texts'
        reads_refused refusal e t =
            record {
              answer = refuses refusal;
              leaves = leaves_by (told refusal) e (refuses refusal) after state₁ payload bits refl q.stored;
              told =
                  t;
              texted = refl;
            }

        pub reads_unfinished : part_in r ≡ taken Part.Unfinished → {numbers texts : List ℕ} {code : ℕ} {payload' numbers' texts' : List ℕ}
            → Hears (unfinished_of s own payload bits) numbers texts code payload' bits numbers' texts'
            → Reads (handing_of (record_in state) s own decode payload bits) state numbers texts code state₁ payload' bits numbers' texts'
        reads_unfinished e h =
            record {
              answer = h.answer;
              leaves =
                  leaves_by (taken Part.Unfinished) e h.answer after state₁ _ _ (ap (λ (x : Heard). called_by x after) h.heard) q.stored;
              told =
                  h.told;
              texted = h.texted;
            }

        pub reads_complete : part_in r ≡ taken Part.Alone → {numbers texts : List ℕ} {code : ℕ} {payload' bits' numbers' texts' : List ℕ}
            → Hears (complete_of s own decode payload bits) numbers texts code payload' bits' numbers' texts'
            → Reads (handing_of (record_in state) s own decode payload bits) state numbers texts code state₁ payload' bits' numbers' texts'
        reads_complete e h =
            record {
              answer = h.answer;
              leaves =
                  leaves_by (taken Part.Alone) e h.answer after state₁ _ _ (ap (λ (x : Heard). called_by x after) h.heard) q.stored;
              told =
                  h.told;
              texted = h.texted;
            }

        -- after a last line the record's bytes and length are sound, so that they are read back
        module _ (e : part_in r ≡ taken Part.Last) where
          last-told : (join_of (loaded_of state) (fragment_of s) own).told ≡ taken Part.Last
          last-told = sym q.told ∙ e

          last-is : after ≡ added (loaded_of state) (fragment_of s).fragment_number own
          last-is =
              last-after (loaded_of state) (fragment_of s) own (taken-part (loaded_of state) (fragment_of s) own Part.Last last-told)
              (taken-passed (loaded_of state) (fragment_of s) own Part.Last last-told)

          last_held : (loaded_of state).len + length own ≤ 384
          last_held =
              last-room (loaded_of state) (fragment_of s) own (taken-part (loaded_of state) (fragment_of s) own Part.Last last-told)
              (taken-passed (loaded_of state) (fragment_of s) own Part.Last last-told)

          last-length : after.len ≤ 384
          last-length = rw last-is last_held

          last_full : length after.bytes ≡ 384
          last_full =
              rw last-is
              (joined_full (loaded_of state).bytes (loaded_of state).len own (ap (λ (x : Record). length x.bytes) loaded_is ∙ record_full) last_held)

          loaded_last : loaded_of state₁ ≡ after
          loaded_last = ap loaded_of q.stored ∙ kept after (omega (arith, last-length)) last_full state w

          pub last-few : (loaded_of state₁).len ≤ 384
          last-few = rw loaded_last last-length

          pub last_long : 400 ≤ length state₁
          last_long =
              rw (q.stored, stored_is after)
              (omega
              (arith, bytes_count after (omega (arith, last-length)) last_full, length-append (the_record_bytes after) (drop (length (the_record_bytes after)) state)))

          pub reads-last : {numbers texts : List ℕ} {code : ℕ} {state' payload' bits' numbers' texts' : List ℕ}
              → Ends s decode state₁ payload bits numbers texts code state' payload' bits' numbers' texts'
              → Reads (handing_of (record_in state) s own decode payload bits) state numbers texts code state' payload' bits' numbers' texts'
          reads-last h =
              let x = h.hears in
              record {
                answer = x.answer;
                leaves =
                    leaves_by (taken Part.Last) e x.answer (emptied_of after) _ _ _
                    (ap (λ (y : Heard). called_by y (emptied_of after))
                    (x.heard ∙ ap (λ (y : Record). complete_of s (take y.len y.bytes) decode payload bits) loaded_last))
                    (h.emptied ∙ ap (λ (y : Record). stored_of (emptied_of y) state₁) loaded_last ∙ ap (stored_of (emptied_of after)) q.stored
                    ∙ stored_again after (emptied_of after) (omega (arith, last-length)) last_full (omega arith) refl state w);
                told = x.told;
                texted = x.texted;
              }

    module _ (line : List ℕ) where
      leaves-refused : (refusal : Refusal) (a : Answer) (state' : List ℕ) → check_of line (length payload) (length bits) ≡ told refusal → a ≡ refuses refusal
          → state' ≡ stored_of (loaded_of state) state → Leaves (called_of (record_in state) line decode payload bits) state a state' payload bits
      leaves-refused refusal a state' e q p =
          leaves_kept _ a state' payload bits p (ap (λ (x : Answer). called_in (stepped (record_in state) x) payload bits) q
          ∙ line_refused (record_in state) line decode payload bits _ _ e)

      leaves-sentence : (s : AisSentence) → check_of line (length payload) (length bits) ≡ taken s
          → (a : Answer) (state' payload' bits' : List ℕ)
          → Leaves (handing_of (record_in state) s (payload_of line s) decode payload bits) state a state' payload' bits'
          → Leaves (called_of (record_in state) line decode payload bits) state a state' payload' bits'
      leaves-sentence s e a state' payload' bits' q =
          subst (λ (c : Called). Leaves c state a state' payload' bits')
          (receiving_line (record_in state) s (payload_of line s) decode payload bits record_full (its_large (record_in state) line decode payload bits s e)
          (its-given (record_in state) line decode payload bits s e)
          ∙ line_received (record_in state) line decode payload bits s e)
          q

      pub reads_early : (refusal : Refusal) → check_of line (length payload) (length bits) ≡ told refusal → {state' : List ℕ}
          → state' ≡ stored_of (loaded_of state) state
          → {numbers texts : List ℕ} {code : ℕ} {numbers' texts' : List ℕ} → told_in code numbers' texts' ≡ told_of (refuses refusal) numbers texts
          → Reads (called_of (record_in state) line decode payload bits) state numbers texts code state' payload bits numbers' texts'
      reads_early refusal e p t = record { answer = refuses refusal; leaves = leaves-refused refusal (refuses refusal) _ e refl p; told = t; texted = refl }

      pub reads_sentence : (s : AisSentence) → check_of line (length payload) (length bits) ≡ taken s
          → {numbers texts : List ℕ} {code : ℕ} {state' payload' bits' numbers' texts' : List ℕ}
          → Reads (handing_of (record_in state) s (payload_of line s) decode payload bits) state numbers texts code state' payload' bits' numbers' texts'
          → Reads (called_of (record_in state) line decode payload bits) state numbers texts code state' payload' bits' numbers' texts'
      reads_sentence s e q = record { answer = q.answer; leaves = leaves-sentence s e q.answer _ _ _ q.leaves; told = q.told; texted = q.texted }
