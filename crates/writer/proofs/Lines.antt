-- The lines of a message as the code puts them: piece by piece, line by line. Assumes nothing.
use mathlib.Core.Path.{◌≡◌, sym, ap, ◌∙◌}
use mathlib.Core.List.{List, [], ◌∷◌, ◌++◌, append_assoc}
use Prim.Native.Nat.{ℕ, suc, ◌+◌, ◌-◌, ◌*◌, ◌/◌, ◌≤◌, ◌<◌}
use native.Mathlib.Omega.{arith}
use borrow.Author.Tests.{eq-eqb, ne_eqb}
use lib.Dec.{eqb}
use lib.ListN.{length, take, drop, length-drop}
use lib.Seq.{slice, length-take-le, take_all, take-add, drop_at}
use Rattle.std.specs.Prelude.{Some, None}
use Rattle.refusal.specs.Words.{pick}
use Rattle.scan.specs.Scan.{comma, digit}
use Rattle.sentence.specs.Written.{Parts, talker_text, report_text, id_text, channel_text, body_text}
use Rattle.text_out.specs.Text.{Text, put}
use Rattle.text_out.proofs.Laws.{put-put, put_then, put-nothing}
use Rattle.writer.specs.Message.{chars_in, fill_in, armoured, Message, lines_in, parts_of, text_of, text_from}
use Rattle.writer.specs.Writer.{message_of}
use Rattle.writer.specs.declared.Request.{Request}
use Rattle.writer.proofs.Armoured.{length-armoured}

pub lines_are : (q : Request) (d : List ℕ) → lines_in (message_of q d) ≡ (chars_in q.count + 59) / 60
unfolding lines_in
lines_are q d = rw length-armoured

-- the five pieces of a body, one after the other
pub put_pieces : (x : Text) {y₁ y₂ y₃ y₄ y₅ : Text} (p : Parts)
    → y₁ ≡ put x (talker_text p.talker ++ report_text p.report)
    → y₂ ≡ put y₁ (comma ∷ digit p.total ∷ comma ∷ digit p.number ∷ comma ∷ id_text p.id)
    → y₃ ≡ put y₂ (comma ∷ (channel_text p.channel ++ comma ∷ []))
    → y₄ ≡ put y₃ p.payload
    → y₅ ≡ put y₄ (comma ∷ digit p.fill ∷ [])
    → y₅ ≡ put x (body_text p)
unfolding body_text
put_pieces x p e₁ e₂ e₃ e₄ e₅ =
    put_then x _ _ e₁ (put_then _ _ _ e₂ (put_then _ _ _ e₃ (put_then _ _ _ e₄ e₅)))
    ∙ ap (put x) (simp append_assoc)

-- a line's characters: 60 from a place on, or those up to the end
full_line : (s : List ℕ) (at : ℕ) → at ≤ length s → slice at (at + 60) s ≡ take 60 (drop at s)
full_line s at h = rw (take-add at 60 s) (drop_at (take at s) (take 60 (drop at s)) at (length-take-le at s h))

rest_line : (s : List ℕ) (at n : ℕ) → length s ≡ n → n ≤ at + 60 → slice at n s ≡ take 60 (drop at s)
rest_line s at n e h = rw (take_all n s (omega arith), take_all 60 (drop at s) (omega (arith, length-drop at s)))

-- the parts of line i of k lines, with its characters and its fill
module _ (q : Request) (k i : ℕ) where
  abbrev pub said : List ℕ → ℕ → Parts
  said payload fill = record {
    talker = q.talker_id;
    report = q.report_type;
    total = k;
    number = i;
    id = pick (eqb k 1) None (Some q.message_id);
    channel = q.channel;
    payload = payload;
    fill = fill;
  }

  module _ (d : List ℕ) (e : k ≡ lines_in (message_of q d)) (first : 1 ≤ i) where
    pub inner_line : i < k → said (slice (60 * (i - 1)) (60 * (i - 1) + 60) (armoured d q.count)) 0 ≡ parts_of (message_of q d) i
    unfolding parts_of
    inner_line h =
        rw (
          e,
          ne_eqb i (lines_in (message_of q d)) (omega arith),
          full_line (armoured d q.count) (60 * (i - 1)) (omega (arith, lines_are q d, length-armoured d q.count)),
        )

    pub last_line : i ≡ k → said (slice (60 * (i - 1)) (chars_in q.count) (armoured d q.count)) (fill_in q.count) ≡ parts_of (message_of q d) i
    unfolding parts_of
    last_line h =
        rw (
          e,
          eq-eqb i (lines_in (message_of q d)) (omega arith),
          rest_line (armoured d q.count) (60 * (i - 1)) (chars_in q.count) (length-armoured d q.count) (omega (arith, lines_are q d)),
        )

-- the loop over the lines: one more line, and the end
module _ (x : Text) (m : Message) (k i : ℕ) where
  pub lines_step : {y z : Text} → i ≤ k → y ≡ put x (text_of m i) → put x (text_from m i (k + 1 - i)) ≡ z → put y (text_from m (i + 1) (k + 1 - (i + 1))) ≡ z
  unfolding text_from
  lines_step {y} h e inv =
      let n : k + 1 - i ≡ suc (k + 1 - (i + 1)) = omega arith in
      ap (λ (t : Text). put t (text_from m (i + 1) (k + 1 - (i + 1)))) e ∙ put-put x (text_of m i) (text_from m (i + 1) (k + 1 - (i + 1)))
      ∙ ap (λ (j : ℕ). put x (text_from m i j)) (sym n) ∙ inv

  pub lines_end : k < i → put x (text_from m i (k + 1 - i)) ≡ x
  unfolding text_from
  lines_end h = let z : k + 1 - i ≡ 0 = omega arith in rw z (put-nothing x)
