-- `put_body` meets its contract: five pieces, of which the last two are one thing before the last line and another in it. Assumes nothing.
use Rattle.std.proofs.Common.{rules}
use mathlib.Core.Path.{◌≡◌, ap, ◌∙◌}
use mathlib.Core.Bool.{false}
use mathlib.Core.List.{List}
use Prim.Native.Nat.{ℕ, ◌+◌, ◌-◌, ◌*◌, ◌/◌, ◌≤◌}
use native.Mathlib.Omega.{arith}
use lib.Seq.{slice}
use Rattle.sentence.specs.Written.{Parts, body_text}
use Rattle.text_out.specs.Text.{put}
use Rattle.text_out.specs.Output.{stands}
use Rattle.writer.specs.Message.{chars_in, fill_in, armoured, lines_in}
use Rattle.writer.specs.Writer.{outside, message_of}
use Rattle.writer.specs.declared.Request.{Request}
use Rattle.writer.proofs.Sendable.{count_range, sendable}
use Rattle.writer.proofs.Lines.{lines_are, put_pieces, said, inner_line, last_line}
use Rattle.writer.proofs.put_body.Goals as goal

-- what is known at the start, and after the count of lines
module _ (q : Request) (d : List ℕ) where
  count_small : outside q d ≡ false → q.count ≤ 2304
  count_small inside = (count_range q d inside).1

  in_place : (i : ℕ) → i ≤ lines_in (message_of q d) → i ≤ (chars_in q.count + 59) / 60
  in_place i h = rw lines_are at h

  found : {n : ℕ} → n ≡ (chars_in q.count + 59) / 60 → n ≡ lines_in (message_of q d)
  found e = rw lines_are e

pub lines_in-lines-requires : goal.lines_in-lines-requires
lines_in-lines-requires c = count_small _ _ c.args.asked.inside

pub overflow_add-chars : goal.overflow_add-chars
overflow_add-chars c = omega (arith, count_small _ _ c.args.asked.inside, in_place _ _ _ c.requires.1)

pub overflow_mul-fill : goal.overflow_mul-fill
overflow_mul-fill c = omega (arith, count_small _ _ c.args.asked.inside, in_place _ _ _ c.requires.1)

pub overflow_mul-from : goal.overflow_mul-from
overflow_mul-from c = omega (arith, count_small _ _ c.args.asked.inside, in_place _ _ _ c.requires.1)

pub put_numbers-requires : goal.put_numbers-requires
put_numbers-requires c = (omega (arith, count_small _ _ c.args.asked.inside, in_place _ _ _ c.requires.1), (omega (arith, count_small _ _ c.args.asked.inside, in_place _ _ _ c.requires.1), (sendable _ _ c.args.asked.inside).digit))

pub put_payload-requires : goal.put_payload-requires
put_payload-requires c = (count_small _ _ c.args.asked.inside, (omega arith, omega (arith, count_small _ _ c.args.asked.inside, in_place _ _ _ c.requires.1)))

pub returns-then-i-lines : goal.returns-then-i-lines
returns-then-i-lines c = record {
  same = search rules;
  is =
      let x = stands c.args.out.now in
      put_pieces x (said c.args.asked.request c.lines_in-lines.result c.args.i (slice (60 * (c.args.i - 1)) (60 * (c.args.i - 1) + 60) (armoured c.args.asked.bits.now c.args.asked.request.count)) 0) c.put_address.ensures.is
      c.put_numbers.ensures.is c.put_channel.ensures.is c.put_payload.ensures.is c.put_fill.ensures.is
      ∙ ap (λ (p : Parts). put x (body_text p))
      (inner_line c.args.asked.request c.lines_in-lines.result c.args.i c.args.asked.bits.now (found _ _ c.lines_in-lines.ensures) c.requires.0 c.if-i-lines.true);
}

pub put_payload-requires-else-i-lines : goal.put_payload-requires-else-i-lines
put_payload-requires-else-i-lines c = (count_small _ _ c.args.asked.inside, (omega (arith, count_small _ _ c.args.asked.inside, in_place _ _ _ c.requires.1), omega arith))

pub returns-else-i-lines : goal.returns-else-i-lines
returns-else-i-lines c = record {
  same = search rules;
  is =
      let x = stands c.args.out.now in
      let at_last : c.args.i ≡ c.lines_in-lines.result = omega (arith, in_place _ _ _ c.requires.1, c.lines_in-lines.ensures) in
      put_pieces x (said c.args.asked.request c.lines_in-lines.result c.args.i (slice (60 * (c.args.i - 1)) (chars_in c.args.asked.request.count) (armoured c.args.asked.bits.now c.args.asked.request.count)) (fill_in c.args.asked.request.count))
      c.put_address.ensures.is c.put_numbers.ensures.is c.put_channel.ensures.is
      c.put_payload-else-i-lines.ensures.is c.put_fill-else-i-lines.ensures.is
      ∙ ap (λ (p : Parts). put x (body_text p)) (last_line c.args.asked.request c.lines_in-lines.result c.args.i c.args.asked.bits.now (found _ _ c.lines_in-lines.ensures) c.requires.0 at_last);
}
