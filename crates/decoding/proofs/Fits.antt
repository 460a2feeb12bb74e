-- Nothing is cut at a buffer's end: what a line is answered with stands whole where the room is there that the program keeps free. Assumes nothing.
use Prim.Native.Nat.{ℕ, ◌≤◌, ◌<◌}
use native.Mathlib.Omega.{arith}
use mathlib.Core.Path.{subst}
use mathlib.Core.List.{List, []}
use lib.ListN.{length, take, length-take}
use Rattle.refusal.specs.Words.{Told}
use Rattle.refusal.specs.Refusal.{row_of}
use Rattle.refusal.specs.declared.Refusal.{Refusal}
use Rattle.text_out.specs.Whole.{Whole}
use Rattle.messages.specs.declared.Message.{Message}
use Rattle.reassembly.specs.declared.Record.{Record}
use Rattle.answer.specs.Answer.{Progress, outcome_in}
use Rattle.answer.specs.declared.Outcome.{Outcome}
use Rattle.answer.specs.declared.Sentence.{Sentence}
use Rattle.answer.proofs.Unique.{outcome_by}
use Rattle.record_bytes.specs.Bytes.{loaded_of}
use Rattle.layout_message.specs.Message.{message_texts}
use Rattle.face_json.proofs.Fits.{line_most, message-most, refused-most, turn_whole}
use Rattle.json_told.specs.declared.Show.{Show}
use Rattle.json_told.specs.Object.{About, refused_object}
use Rattle.json_told.specs.Answer.{shown_by, about_of, about_long, said_of, read_over, left_of, left_long}
use Rattle.json_told.proofs.Sound.{Sound}
use Rattle.json_told.proofs.Said.{message-said}
use Rattle.json_told.proofs.Refused.{refusal_said}
use Rattle.json_told.proofs.Calls.{over_sound, texts_eighty}
use Rattle.json_told.proofs.Lent.{over-told}

-- a refused line
refusal_most : (number : ℕ) (r : Refusal) (about : About) → length (refused_object number (row_of r).number (row_of r).values about) ≤ line_most
refusal_most number r about =
    subst (λ (s : List ℕ). length s ≤ line_most) (refusal_said number r about)
    (refused-most _ (take 100 about.text) (omega (arith, length-take 100 about.text)))

shown-most : (show : Show) (s : List ℕ) → length s ≤ line_most → length (shown_by show s) ≤ line_most
shown-most Show.All s h = h
shown-most Show.Quiet s h = omega arith

-- what any answer is told with
pub answer-most : (show : Show) (number : ℕ) (found : Record) (line : List ℕ) (o : Outcome) (s : Sentence) (m : Message) (bits : List ℕ) → Sound m
    → length (said_of show number found line (outcome_in o) s m bits) ≤ line_most
answer-most show number found line Outcome.Complete s m bits h =
    subst (λ (t : List ℕ). length t ≤ line_most) (message-said s number bits m h)
    (message-most _ (message_texts m) (omega (arith, texts_eighty m h)))
answer-most show number found line Outcome.Unfinished s m bits h = omega arith
answer-most show number found line (Outcome.Refused r) s m bits h =
    shown-most show _ (refusal_most number r (about_of (row_of r).number found line))

-- a line that is read
pub line_whole : (show : Show) (state : List ℕ) (number : ℕ) (line : List ℕ) (at : ℕ) (out tally : List ℕ) → at < 49152 → 65536 ≤ length out
    → let c = read_over state line in
    Whole at out (said_of show number (loaded_of state) line c.told c.sentence c.message c.bits) (left_of show state number line at out tally).out
line_whole show state number line at out tally used room =
    let c = read_over state line in
    let found = loaded_of state in
    turn_whole (said_of show number found line c.told c.sentence c.message c.bits)
    (subst (λ (t : Told Progress). length (said_of show number found line t c.sentence c.message c.bits) ≤ line_most) (over-told state line)
    (answer-most show number found line (outcome_by c.told) c.sentence c.message c.bits (over_sound state line))) at out used room

-- a line that is too long
pub long_whole : (show : Show) (state : List ℕ) (number : ℕ) (line : List ℕ) (at : ℕ) (out tally : List ℕ) → at < 49152 → 65536 ≤ length out
    → Whole at out (shown_by show (refused_object number 1 [] (about_long line))) (left_long show state number line at out tally).out
long_whole show state number line at out tally used room =
    turn_whole (shown_by show (refused_object number 1 [] (about_long line)))
    (shown-most show _ (refusal_most number Refusal.LineTooLong (about_long line))) at out used room
