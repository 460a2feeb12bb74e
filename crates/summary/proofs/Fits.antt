-- NOTHING IS CUT: what is said at the end of the inputs stands whole, since the text of the counts has at most 2,048 bytes, and that of an unfinished message
-- at most 256. Assumes nothing.
use Prim.Native.Nat.{ℕ, ◌≤◌}
use native.Mathlib.Omega.{arith}
use native.Mathlib.Nat.{le_trans}
use mathlib.Core.Path.{refl}
use mathlib.Core.Bool.{Bool, true, false}
use mathlib.Core.List.{List, [], ◌++◌}
use borrow.Author.Tests.{leb-true}
use lib.Dec.{eqb}
use lib.ListN.{length, length-append}
use Rattle.std.specs.Prelude.{Option, Some, None}
use Rattle.refusal.specs.Words.{pick}
use Rattle.reassembly.specs.declared.Record.{Record}
use Rattle.text_out.specs.Digits.{decimal_in, decimal_of}
use Rattle.text_out.specs.Text.{text, put, ascii}
use Rattle.text_out.specs.Whole.{Whole}
use Rattle.text_out.proofs.Lengths.{decimal-most}
use Rattle.text_out.proofs.Whole.{put_whole}
use Rattle.face_rows.specs.Bound.{bound_of}
use Rattle.face_rows.proofs.Bound.{printed-most}
use Rattle.summary.specs.Summary.{summary_table, summary_of}
use Rattle.summary.specs.Unfinished.{number_text, held_text, unfinished_text, end_text}

summary_most : (tally : List ℕ) → length (summary_of tally) ≤ 2048
unfolding summary_of decimal_in
summary_most tally = le_trans (printed-most 0 tally [] (omega arith) summary_table) (leb-true (bound_of 0 summary_table) 2048 refl)

-- ---- a message that is unfinished
number-most : (n : Option ℕ) → length (number_text n) ≤ 29
number-most None = omega arith
number-most (Some n) = omega (arith, length-append (ascii "number ") (decimal_of n ++ ascii ", "), length-append (decimal_of n) (ascii ", "), decimal-most n)

-- what the record still holds is told in few bytes
unfinished-most : (r : Record) → length (unfinished_text r) ≤ 256
unfolding held_text
unfinished-most r = go (eqb r.len 0)
  where
    lines : List ℕ
    lines = decimal_of r.fragment_number ++ (ascii ", characters: " ++ (decimal_of r.len ++ ascii "\n"))

    all : List ℕ
    all = ascii "unfinished message: " ++ (number_text r.message_id ++ (ascii "lines so far: " ++ lines))

    go : (t : Bool) → length (pick t [] all) ≤ 256
    go true = omega arith
    go false =
        omega (
          arith,
          length-append (ascii "unfinished message: ") (number_text r.message_id ++ (ascii "lines so far: " ++ lines)),
          length-append (number_text r.message_id) (ascii "lines so far: " ++ lines),
          length-append (ascii "lines so far: ") lines,
          length-append (decimal_of r.fragment_number) (ascii ", characters: " ++ (decimal_of r.len ++ ascii "\n")),
          length-append (ascii ", characters: ") (decimal_of r.len ++ ascii "\n"),
          length-append (decimal_of r.len) (ascii "\n"),
          number-most r.message_id,
          decimal-most r.fragment_number,
          decimal-most r.len,
        )

-- ---- all that is said at the end stands whole at the start of a buffer of 4,096 bytes
pub end_whole : (r : Record) (counts : Bool) (tally words : List ℕ) → 4096 ≤ length words
    → Whole 0 words (end_text r counts tally) (put (text 0 words) (end_text r counts tally))
end_whole r counts tally words room =
    put_whole 0 words (end_text r counts tally)
    (omega (arith, length-append (unfinished_text r) (pick counts (summary_of tally) []), unfinished-most r, counts-most counts, room))
  where
    counts-most : (b : Bool) → length (pick b (summary_of tally) []) ≤ 2048
    counts-most true = summary_most tally
    counts-most false = omega arith
