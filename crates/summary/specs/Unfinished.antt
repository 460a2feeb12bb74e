-- What is said at the end of the inputs, for whoever started the program: a message that is unfinished, and the counts where they are asked.
use Rattle.std.specs.Prelude.{ℕ, Bool, List, [], ◌++◌, eqb, Option, Some, None}
use Rattle.refusal.specs.Words.{pick}
use Rattle.reassembly.specs.declared.Record.{Record}
use Rattle.text_out.specs.Text.{ascii}
use Rattle.text_out.specs.Digits.{decimal_of}
use Rattle.summary.specs.Summary.{summary_of}

-- a message number, where there is one
abbrev pub number_text : Option ℕ → List ℕ
number_text None = []
number_text (Some n) = ascii "number " ++ decimal_of n ++ ascii ", "

-- what the record still holds: its message number, its fragment number, which counts the lines joined, and its length
unfoldable pub held_text : Option ℕ → ℕ → ℕ → List ℕ
held_text id number len =
    pick (eqb len 0) []
    (ascii "unfinished message: "
    ++ (number_text id ++ (ascii "lines so far: " ++ (decimal_of number ++ (ascii ", characters: " ++ (decimal_of len ++ ascii "\n"))))))

abbrev pub unfinished_text : Record → List ℕ
unfinished_text r = held_text r.message_id r.fragment_number r.len

abbrev pub end_text : Record → Bool → List ℕ → List ℕ
end_text r counts tally = unfinished_text r ++ pick counts (summary_of tally) []
