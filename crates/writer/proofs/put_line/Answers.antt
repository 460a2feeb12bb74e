-- `put_line` meets its contract: the body stands first in 80 bytes, and the checksum is of it. Assumes nothing.
use Rattle.std.proofs.Common.{rules}
use mathlib.Core.Path.{◌≡◌, ap, ◌∙◌}
use mathlib.Core.Bool.{false}
use mathlib.Core.List.{List, [], ◌∷◌}
use Prim.Native.Nat.{ℕ, ◌≤◌}
use lib.ListN.{length, take}
use Rattle.scan.specs.Scan.{exclamation, xor_of}
use Rattle.sentence.specs.Written.{body_text, sum_of, closed, line_text}
use Rattle.text_out.specs.Text.{Text, put}
use Rattle.text_out.proofs.Laws.{put_then}
use Rattle.writer.specs.Message.{lines_in, parts_of, text_of}
use Rattle.writer.specs.Writer.{outside, message_of}
use Rattle.writer.specs.declared.Request.{Request}
use Rattle.writer.proofs.Sendable.{sendable}
use Rattle.writer.proofs.Lengths.{body-short}
use Rattle.writer.proofs.Placed.{front, front_length}
use Rattle.text_out.specs.Output.{stands}
use Rattle.writer.proofs.put_line.Goals as goal

short : (q : Request) (d : List ℕ) (i : ℕ) → outside q d ≡ false → 1 ≤ i → i ≤ lines_in (message_of q d)
    → length (body_text (parts_of (message_of q d) i)) ≤ 80
short q d i inside first at_most = body-short _ (sendable q d inside) _ first at_most

pub slice_bounds-line-end : goal.slice_bounds-line-end
slice_bounds-line-end c =
    let s = body_text (parts_of (message_of c.args.asked.request c.args.asked.bits.now) c.args.i) in
    front_length s _ _ _ (c.put_body.ensures.is ∙ ap (λ (t : Text). put t s) c.new-body.ensures.is) (short _ _ _ c.args.asked.inside c.requires.0 c.requires.1)

pub returns : goal.returns
unfolding text_of line_text sum_of
returns c = record {
  same = search rules;
  is =
      let x = stands c.args.out.now in
      let s = body_text (parts_of (message_of c.args.asked.request c.args.asked.bits.now) c.args.i) in
      put_then x (exclamation ∷ []) _ c.put_byte.ensures.is (put_then _ _ _ c.put_bytes.ensures.is c.put_close.ensures.is)
      ∙ ap (λ (v : ℕ). put x (closed exclamation (take c.put_body.new.out.at c.put_body.new.out.buffer.now) v)) c.exclusive_or-sum.ensures
      ∙ ap (λ (t : List ℕ). put x (closed exclamation t (xor_of 0 t)))
      (front s _ _ _ (c.put_body.ensures.is ∙ ap (λ (t : Text). put t s) c.new-body.ensures.is) (short _ _ _ c.args.asked.inside c.requires.0 c.requires.1));
}
