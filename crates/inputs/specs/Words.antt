-- The words of a command line, and what is said of a wrong one.
use Rattle.std.specs.Prelude.{ℕ, ◌≡◌, ◌≤◌, Bool, true, not, List, ◌++◌, eqb, ltb, length, take, get_or}
use Rattle.refusal.specs.Words.{pick}
use Rattle.lines.specs.Same.{same_as}
use Rattle.text_out.specs.Text.{ascii}
use Rattle.inputs.specs.declared.Word.{Word}

-- the first n bytes of a buffer, which has so many; the second part follows from the first, and spares a caller's `&buf[..n]` a proof
abbrev pub IsPrefixLen : ℕ → List ℕ → Type 0
IsPrefixLen n xs = (n ≤ length xs) × (n ≡ length (take n xs))

-- a word names an input where it does not start with `-` (45), or is `-` alone, as POSIX's guidelines for utilities have it
unfoldable pub is_input : List ℕ → Bool
is_input word = pick (ltb (length word) 2) true (not (eqb (get_or word 0 0) 45))

-- what a word asks
unfoldable pub word_of : List ℕ → Word
word_of word =
    pick (same_as word (ascii "--help")) Word.Help
    (pick (same_as word (ascii "--status")) Word.Status (pick (is_input word) Word.Input Word.Option))

-- an option that the program has not
unfoldable pub unknown_text : List ℕ → List ℕ → List ℕ
unknown_text program name = program ++ ascii ": unknown option: " ++ name ++ ascii " (--help lists them)\n"

-- a file, before the system's reason
unfoldable pub named_text : List ℕ → List ℕ → List ℕ
named_text program name = program ++ ascii ": " ++ name
