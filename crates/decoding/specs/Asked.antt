-- What the words of program `decode`'s command line ask.
use Rattle.std.specs.Prelude.{ℕ, Bool, true, false, List, Option, Some, None}
use Rattle.std.specs.Option.{option_or}
use Rattle.refusal.specs.Words.{pick}
use Rattle.lines.specs.Same.{same_as}
use Rattle.text_out.specs.Text.{ascii}
use Rattle.inputs.specs.declared.Word.{Word}
use Rattle.inputs.specs.Words.{word_of}
use Rattle.json_told.specs.declared.Show.{Show}
use Rattle.decoding.specs.declared.Asked.{Asked}

abbrev pub asks : Bool → Bool → Bool → Bool → Bool → Option ℕ → Asked
asks help status quiet summary inputs unknown =
    record { help = help; status = status; quiet = quiet; summary = summary; inputs = inputs; unknown = unknown }

-- no words
abbrev pub asked_nothing : Asked
asked_nothing = asks false false false false false None

-- an option: the first that is unknown is kept by its place
unfoldable pub option_by : Asked → List ℕ → ℕ → Asked
option_by a word i =
    pick (same_as word (ascii "--quiet")) (asks a.help a.status true a.summary a.inputs a.unknown)
    (pick (same_as word (ascii "--summary")) (asks a.help a.status a.quiet true a.inputs a.unknown)
    (asks a.help a.status a.quiet a.summary a.inputs (option_or a.unknown (Some i))))

-- a word at a place of the command line
abbrev pub asked_as : Word → Asked → List ℕ → ℕ → Asked
asked_as Word.Help a word i = asks true a.status a.quiet a.summary a.inputs a.unknown
asked_as Word.Status a word i = asks a.help true a.quiet a.summary a.inputs a.unknown
asked_as Word.Input a word i = asks a.help a.status a.quiet a.summary true a.unknown
asked_as Word.Option a word i = option_by a word i

unfoldable pub asked_by : Asked → List ℕ → ℕ → Asked
asked_by a word i = asked_as (word_of word) a word i

-- what is written of refused lines
abbrev pub show_of : Bool → Show
show_of quiet = pick quiet Show.Quiet Show.All
