-- A line that is read into numbers and texts of zeros is laid out; and what is told of it is told by its code. Assumes nothing.
use Rattle.std.specs.Prelude.{Option}
use Prim.Native.Nat.{ℕ}
use native.Mathlib.Omega.{arith}
use mathlib.Core.Path.{◌≡◌, refl, sym, ap, ◌∙◌}
use mathlib.Core.Bool.{Bool, true, false, ◌||◌}
use mathlib.Core.List.{List, [], ◌∷◌, ◌++◌}
use lib.Dec.{ltb}
use lib.ListN.{length, get_or, replicate}
use Rattle.refusal.specs.Words.{pick, Told, taken, refused, over}
use Rattle.refusal.specs.Values.{count_by}
use Rattle.refusal.proofs.Unique.{counted}
use Rattle.messages.specs.declared.Message.{Message}
use Rattle.reassembly.specs.declared.Record.{Record}
use Rattle.answer.specs.Answer.{Progress, outcome_in}
use Rattle.answer.specs.declared.Sentence.{Sentence}
use Rattle.answer.specs.declared.Decode.{Decode}
use Rattle.answer.specs.declared.Outcome.{Outcome}
use Rattle.answer.proofs.Unique.{outcome_by}
use Rattle.ais.specs.Call.{Called}
use Rattle.ais.proofs.Promises.{told_outcome}
use Rattle.text_out.specs.Text.{Text, text, put}
use Rattle.parsers.specs.Field.{field_of}
use Rattle.record_bytes.specs.Bytes.{too_few, record_in, the_record_bytes, loaded_of, stored_of}
use Rattle.layout_message.specs.Message.{message_texts}
use Rattle.layout_answer.specs.Sentence.{code_of, values_of, value_count}
use Rattle.layout_answer.specs.declared.whole.Layout.{Layout}
use Rattle.layout_answer.specs.Answer.{numbers_by}
use Rattle.layout_answer.specs.Sender.{sender_of}
use Rattle.layout_answer.proofs.Counts.{numbers-length}
use Rattle.layout_answer.proofs.Laid.{filled, laid}
use Rattle.record_read.specs.Read as lent
use Rattle.record_read.proofs.Calls.{first}
use Rattle.json_told.specs.Answer.{read_of, the_read_short, read_over, left_with, left_of}
use Rattle.json_told.specs.Laid.{layout_for, layout_in, Laid, laid_in, laid_of, Coded, shown_for, tally_for}
use Rattle.json_told.specs.declared.Show.{Show}
use Rattle.json_told.proofs.Calls.{left_same, over_sound, texts_eighty, laid_left}
use Rattle.json_told.proofs.Decoded.{on-pick}

-- ---- what is told of a call is what an outcome of it tells
read_told : (found : Record) (line : List ℕ) → outcome_in (outcome_by (read_of found line).told) ≡ (read_of found line).told
unfolding read_of
read_told found line = told_outcome found line Decode.On (replicate 384 0) (replicate 288 0)

pub over-told : (state line : List ℕ) → outcome_in (outcome_by (read_over state line).told) ≡ (read_over state line).told
over-told state line =
    on-pick (λ (c : Called). outcome_in (outcome_by c.told) ≡ c.told) (too_few state) refl (read_told (record_in state) line)

-- its code tells how many values it has
count-told : (o : Outcome) → count_by (code_of (outcome_in o)) ≡ value_count (outcome_in o)
count-told Outcome.Complete = refl
count-told Outcome.Unfinished = refl
count-told (Outcome.Refused r) = counted r

-- ---- a line that is read into zeros
module _ (state line : List ℕ) where
  -- what a call gives back, first in numbers and texts of zeros
  abbrev given : Called → List ℕ → lent.Read
  given c state' =
      lent.read_in (code_of c.told) state' c.payload c.bits (over (numbers_by c.told c.sentence c.message) (replicate 54 0))
      (over (message_texts c.message) (replicate 80 0))

  by-few : (b : Bool) (c : Called)
      → pick (b || (ltb (length {A = ℕ} (replicate 54 0)) 50 || ltb (length {A = ℕ} (replicate 80 0)) 80))
      (lent.read_in 12 state (replicate 384 0) (replicate 288 0) (replicate 54 0) (replicate 80 0)) (lent.flattened c state (replicate 54 0) (replicate 80 0))
      ≡ given (pick b the_read_short c) (pick b state (over (the_record_bytes (pick b the_read_short c).after) state))
  by-few true c = refl
  by-few false c = refl

  lent-given : lent.read_of state line true (replicate 384 0) (replicate 288 0) (replicate 54 0) (replicate 80 0)
      ≡ given (read_over state line) (stored_of (read_over state line).after state)
  unfolding lent.read_of read_of
  lent-given = by-few (too_few state) (read_of (record_in state) line)

  -- the four numbers after the fifty
  pub read_laid : (number : ℕ) {code radio count p : ℕ} {numbers texts state' payload' bits' numbers' texts' all : List ℕ} → numbers ≡ replicate 54 0
      → texts ≡ replicate 80 0
      → lent.read_in code state' payload' bits' numbers' texts' ≡ lent.read_of state line true (replicate 384 0) (replicate 288 0) numbers texts → radio ≡ field_of bits' 149 19 → count ≡ count_by code
      → text p all ≡ put (text 50 numbers') (number ∷ radio ∷ code ∷ count ∷ [])
      → laid_in code state' all texts' ≡ laid_of state line number
  read_laid number {code} {radio} {count} {p} {numbers} {texts} {state'} {payload'} {bits'} {numbers'} {texts'} {all} no-numbers no_texts_lem read is-radio is-count
      more =
      let c = read_over state line in
      let e =
      read ∙ ap (λ (n : List ℕ). lent.read_of state line true (replicate 384 0) (replicate 288 0) n texts) no-numbers
      ∙ ap (lent.read_of state line true (replicate 384 0) (replicate 288 0) (replicate 54 0)) no_texts_lem ∙ lent-given in
      let s = numbers_by c.told c.sentence c.message in
      let t = message_texts c.message in
      let fifty = numbers-length c.told c.sentence c.message in
      let eighty = texts_eighty c.message (over_sound state line) in
      let its-code : code ≡ code_of c.told = ap (λ (x : lent.Read). x.code) e in
      let its-state : state' ≡ stored_of c.after state = ap (λ (x : lent.Read). x.state) e in
      let its-bits : bits' ≡ c.bits = ap (λ (x : lent.Read). x.bits) e in
      let its-numbers : numbers' ≡ (put (text 0 (replicate 54 0)) s).bytes =
      ap (λ (x : lent.Read). x.numbers) e ∙ sym (first s (replicate 54 0) (omega (arith, fifty))) in
      let its-texts : texts' ≡ t =
      ap (λ (x : lent.Read). x.texts) e ∙ sym (first t (replicate 80 0) (omega (arith, eighty))) ∙ filled (replicate 80 0) t eighty in
      let its-count : count ≡ value_count c.told =
      is-count ∙ ap count_by (its-code ∙ ap code_of (sym (over-told state line))) ∙ count-told (outcome_by c.told) ∙ ap value_count (over-told state line) in
      let after = number ∷ radio ∷ code ∷ count ∷ [] in
      let its_all : all ≡ s ++ after =
      ap (λ (x : Text). x.bytes) more ∙ ap (λ (x : List ℕ). (put (text 50 x) after).bytes) its-numbers ∙ laid (replicate 54 0) s after fifty (omega arith) in
      rw (its_all, its-texts, its-state, is-radio, its-count, its-code, its-bits)

-- ---- what is put for it
first-value : (t : Told Progress) (s : Sentence) (m : Message) (after : List ℕ) → get_or (numbers_by t s m ++ after) 0 0 ≡ get_or (values_of t) 0 0
first-value (taken p) s m after = refl
first-value (refused n values) s m after = refl

second-value : (t : Told Progress) (s : Sentence) (m : Message) (after : List ℕ) → get_or (numbers_by t s m ++ after) 1 0 ≡ get_or (values_of t) 1 0
second-value (taken p) s m after = refl
second-value (refused n values) s m after = refl

module _ (show : Show) (state line : List ℕ) (number at : ℕ) (out tally : List ℕ) where
  pub told-left : {code r : ℕ} {sender : Option ℕ} {state' numbers' texts' out' tally' : List ℕ} → sender ≡ sender_of code (loaded_of state) line
      → laid_in code state' numbers' texts' ≡ laid_of state line number
      → ((o : Outcome) → Coded o code numbers'
      → (text r out' ≡ put (text at out) (shown_for show number sender line (outcome_in o) (layout_in numbers' texts')))
      × (tally' ≡ tally_for tally line (outcome_in o) numbers'))
      → left_with state' r out' tally' ≡ left_of show state number line at out tally
  told-left {code} {r} {sender} {state'} {numbers'} {texts'} {out'} {tally'} is-sender e shown =
      let c = read_over state line in
      let o = outcome_by c.told in
      let t = over-told state line in
      let more = number ∷ field_of c.bits 149 19 ∷ code_of c.told ∷ value_count c.told ∷ [] in
      let l : layout_in numbers' texts' ≡ layout_for number c = ap (λ (x : Laid). x.layout) e in
      let n : numbers' ≡ (layout_for number c).numbers = ap (λ (x : Layout). x.numbers) l in
      let coded : Coded o code numbers' = record {
        its = ap (λ (x : Laid). x.code) e ∙ ap code_of (sym t);
        first =
            ap (λ (x : List ℕ). get_or x 0 0) n ∙ first-value c.told c.sentence c.message more
            ∙ ap (λ (x : Told Progress). get_or (values_of x) 0 0) (sym t);
        second =
            ap (λ (x : List ℕ). get_or x 1 0) n ∙ second-value c.told c.sentence c.message more
            ∙ ap (λ (x : Told Progress). get_or (values_of x) 1 0) (sym t);
      } in
      let p = shown o coded in
      let sent = sender_of (code_of c.told) (loaded_of state) line in
      let k : code ≡ code_of c.told = ap (λ (x : Laid). x.code) e in
      let said : text r out' ≡ put (text at out) (shown_for show number sent line c.told (layout_for number c)) =
      p.0
      ∙ ap (λ (x : Option ℕ). put (text at out) (shown_for show number x line (outcome_in o) (layout_in numbers' texts')))
      (is-sender ∙ ap (λ (n : ℕ). sender_of n (loaded_of state) line) k)
      ∙ ap (λ (x : Told Progress). put (text at out) (shown_for show number sent line x (layout_in numbers' texts'))) t
      ∙ ap (λ (x : Layout). put (text at out) (shown_for show number sent line c.told x)) l in
      let counts : tally' ≡ tally_for tally line c.told (layout_for number c).numbers =
      p.1 ∙ ap (λ (x : Told Progress). tally_for tally line x numbers') t ∙ ap (tally_for tally line c.told) n in
      ap (λ (x : List ℕ). left_with x r out' tally') (ap (λ (x : Laid). x.state) e) ∙ left_same (stored_of c.after state) said counts
      ∙ laid_left show state number line (text at out) tally
