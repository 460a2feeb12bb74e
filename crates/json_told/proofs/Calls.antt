-- For every record and every line: what a call is answered with, in JSON, is what json_told/specs/Object says of what the call told. Assumes nothing.
use Prim.Native.Nat.{ℕ}
use native.Mathlib.Omega.{arith}
use mathlib.Core.Path.{◌≡◌, refl, ap, ◌∙◌}
use mathlib.Core.List.{List, ◌++◌}
use lib.ListN.{length, replicate, length-append}
use Rattle.std.specs.Prelude.{Ok, Err}
use Rattle.refusal.specs.Words.{pick, Told, taken, refused, Check, checked, on_taken}
use Rattle.armour.specs.Armour.{unarmored}
use Rattle.messages.specs.Messages.{no_message, message_by, type_of}
use Rattle.messages.specs.declared.AisMessage.{AisMessage}
use Rattle.messages.specs.declared.Message.{Message}
use Rattle.sentence.specs.Line.{parsed_of, payload_of, Parsed}
use Rattle.reassembly.specs.declared.Record.{Record}
use Rattle.answer.specs.declared.Decode.{Decode}
use Rattle.answer.specs.Answer.{Progress, complete, unfinished}
use Rattle.answer.specs.declared.Sentence.{Sentence}
use Rattle.ais.specs.Call.{Called, part_of_line, progress_of, handed_of, decodes, checks_of, call_by, called_of}
use Rattle.parsers.specs.Field.{field_of}
use Rattle.record_bytes.specs.Bytes.{too_few, record_in, loaded_of, stored_of}
use Rattle.layout_message.specs.Message.{content_texts, message_texts}
use Rattle.layout_answer.specs.Layout.{layout_by}
use Rattle.layout_answer.specs.Sender.{sender_of}
use Rattle.layout_answer.specs.Sentence.{code_of}
use Rattle.summary.specs.Tally.{counted_of}
use Rattle.text_out.specs.Text.{Text, put}
use Rattle.json_told.specs.Answer.{said_of, tally_of, Left, read_of, read_over, left_by}
use Rattle.json_told.specs.Laid.{layout_for, shown_for, tally_for}
use Rattle.json_told.specs.declared.Show.{Show}
use Rattle.json_told.proofs.Sound.{ContentSound, Sound}
use Rattle.json_told.proofs.Said.{message-said}
use Rattle.json_told.proofs.Counted.{type_laid}
use Rattle.json_told.proofs.Decoded.{on-pick, decoded_sound}

-- what the code leaves
abbrev pub left_as_laid : Show → ℕ → List ℕ → List ℕ → Text → List ℕ → Called → Left
left_as_laid show number state line before tally c = record {
  state = stored_of c.after state;
  out = put before (shown_for show number (sender_of (code_of c.told) (loaded_of state) line) line c.told (layout_for number c));
  tally = tally_for tally line c.told (layout_for number c).numbers;
}

-- the text and the counts one after the other
pub left_same : (state : List ℕ) {t u : Text} {l m : List ℕ} → t ≡ u → l ≡ m
    → ◌≡◌ {A = Left} (record { state = state; out = t; tally = l }) (record { state = state; out = u; tally = m })
left_same state {t} {u} {l} {m} e d =
    ap (λ (x : Text). record { state = state; out = x; tally = l }) e ∙ ap (λ (x : List ℕ). record { state = state; out = u; tally = x }) d

-- ---- a call's message is sound, whatever is told of it
taken_sound : (t : Told Progress) (m : Message) → Sound m → Sound (on_taken t m no_message)
taken_sound (taken p) m h = h
taken_sound (refused n values) m h = tt

module _ (r : Record) (line : List ℕ) (payload bits : List ℕ) (checks : List Check) where
  by-parsed : (p : Parsed) → Sound (call_by checks r line Decode.On p payload bits).message
  by-parsed (Ok s) =
      let d = unarmored (handed_of r s (payload_of line s)) s.fill_bit_count in
      let t = checked checks (taken (progress_of (part_of_line s))) in
      taken_sound t (pick (decodes Decode.On s) (message_by (type_of d) d) no_message) (on-pick Sound (decodes Decode.On s) (decoded_sound (type_of d) d) tt)
  by-parsed (Err broken) = tt

pub read_sound : (r : Record) (line : List ℕ) → Sound (read_of r line).message
unfolding read_of called_of
read_sound r line = by-parsed r line (replicate 384 0) (replicate 288 0) (checks_of r line Decode.On 384 288) (parsed_of line)

pub over_sound : (state line : List ℕ) → Sound (read_over state line).message
over_sound state line = on-pick (λ (c : Called). Sound c.message) (too_few state) tt (read_sound (record_in state) line)

-- such a message has eighty bytes of text
pub texts_eighty : (m : Message) → Sound m → length (message_texts m) ≡ 80
texts_eighty m s = go m.content s
  where
    go : (c : AisMessage) → ContentSound c m.texts m.interrogation → length (content_texts c m) ≡ 80
    go AisMessage.Nothing h = refl
    go (AisMessage.PositionReport p) h = refl
    go (AisMessage.StaticDataReport r) h =
        let t = m.texts in
        let a = t.vessel_name.bytes in
        let b = t.vendor_id.bytes in
        let c = t.model_serial.bytes in
        let d = t.callsign.bytes in
        omega (
          arith,
          length-append a (b ++ (c ++ d)),
          length-append b (c ++ d),
          length-append c d,
          h.1.name.bytes,
          h.1.vendor.bytes,
          h.1.model.bytes,
          h.1.callsign.bytes,
        )
    go AisMessage.Interrogation h = refl

-- ---- what is told of such a message
pub told-said : (show : Show) (number : ℕ) (found : Record) (line : List ℕ) (t : Told Progress) (s : Sentence) (m : Message) (bits : List ℕ) → Sound m
    → shown_for show number (sender_of (code_of t) found line) line t (layout_by t s m number (field_of bits 149 19)) ≡ said_of show number found line t s m bits
told-said show number found line (taken complete) s m bits h = message-said s number bits m h
told-said show number found line (taken unfinished) s m bits h = refl
told-said show number found line (refused n values) s m bits h = refl

told-counted : (tally line : List ℕ) (t : Told Progress) (s : Sentence) (m : Message) (number radio : ℕ)
    → tally_for tally line t (layout_by t s m number radio).numbers ≡ tally_of tally line t m
told-counted tally line (taken complete) s m number radio =
    ap (counted_of tally 0) (type_laid (taken complete) s m.content m.texts m.interrogation number radio)
told-counted tally line (taken unfinished) s m number radio = refl
told-counted tally line (refused n values) s m number radio = refl

-- ---- the theorem: over every record, every number of a line, and every line
module _ (show : Show) (state : List ℕ) (number : ℕ) (line : List ℕ) where
  -- what the code leaves, the answer laid out and shown, is what is promised
  pub laid_left : (before : Text) (tally : List ℕ)
      → left_as_laid show number state line before tally (read_over state line) ≡ left_by show number state line before tally (read_over state line)
  laid_left before tally =
      let c = read_over state line in
      left_same (stored_of c.after state)
      (ap (put before) (told-said show number (loaded_of state) line c.told c.sentence c.message c.bits (over_sound state line)))
      (told-counted tally line c.told c.sentence c.message number (field_of c.bits 149 19))
