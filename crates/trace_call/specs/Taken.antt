-- What is said of a line that was taken, and of the two lent buffers, as the comparing protocol shows them.
use Rattle.std.specs.Prelude.{ℕ, ◌&&◌, List, ◌∷◌, ◌++◌, take, drop}
use Rattle.ais.specs.Call.{Called}
use Rattle.face_values.specs.Quoted.{shown_in}
use Rattle.trace_show.specs.Shown.{untouched_in, kept_shown}
use Rattle.layout_answer.specs.declared.whole.Layout.{Layout}
use Rattle.layout_answer.specs.Layout.{layout_by}
use Rattle.face_rows.specs.Rows.{printed}
use Rattle.trace_show.specs.Tables.{sentence_table}
use Rattle.trace_show.specs.Message.{message_words}

-- "PAYLOAD and BITS the bytes that were handed out in the two buffers": the first n of a buffer
abbrev pub handed_shown : ℕ → List ℕ → List ℕ
handed_shown n buffer = 32 ∷ shown_in (take n buffer)

-- "KEPT is `kept` where every lent byte beyond what was handed out is still 170": beyond n bytes of the one buffer and m of the other
abbrev pub both_kept : ℕ → List ℕ → ℕ → List ℕ → List ℕ
both_kept n payload m bits = kept_shown (untouched_in (drop n payload) && untouched_in (drop m bits))

-- "`read`, taken: `unfinished` or `complete`, then `TALKER .. SENT PAYLOAD BITS MESSAGE`", and KEPT, from the answer's layout
abbrev pub laid_shown : List ℕ → List ℕ → List ℕ → List ℕ → ℕ → List ℕ → ℕ → List ℕ
laid_shown word numbers texts payload n bits m =
    word ++ printed sentence_table numbers texts ++ handed_shown n payload ++ handed_shown m bits ++ (32 ∷ message_words numbers texts) ++ both_kept n payload m bits

abbrev pub taken_with : Layout → List ℕ → ℕ → Called → List ℕ
taken_with l word m c = laid_shown word l.numbers l.texts c.payload c.sentence.payload_len c.bits m

-- where m bytes were handed out in the bit buffer
abbrev pub taken_shown : List ℕ → ℕ → Called → List ℕ
taken_shown word m c = taken_with (layout_by c.told c.sentence c.message 0 0) word m c
