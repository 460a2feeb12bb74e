-- The lines as people get them: cut out of what the writer wrote, and how each ends as it is handed on. What stands in quotes is document 01's text.
use Rattle.std.specs.Prelude.{ℕ, zero, suc, ◌+◌, ◌-◌, List, [], ◌∷◌, ◌++◌, eqb, length, take}
use Rattle.refusal.specs.Words.{pick}
use Rattle.writer.specs.Message.{Message, lines_in, text_of}
use Rattle.delivery.specs.Delivery.{Arrival}

-- the text of the line that arrives, as our writer wrote it
abbrev pub text_in : Arrival → List ℕ
text_in a = text_of a.of a.line

-- n lines of m from line i on, each once and in order
abbrev pub lines_from : Message → ℕ → ℕ → List Arrival
lines_from m i zero = []
lines_from m i (suc n) = record { of = m; line = i } ∷ lines_from m (i + 1) n

abbrev pub the_all_lines : Message → List Arrival
the_all_lines m = lines_from m 1 (lines_in m)

-- bytes cut after each LF, which is 10
abbrev pub onto : ℕ → List (List ℕ) → List (List ℕ)
onto b [] = (b ∷ []) ∷ []
onto b (line ∷ later) = (b ∷ line) ∷ later

abbrev pub cut_after_lf : List ℕ → List (List ℕ)
cut_after_lf [] = []
cut_after_lf (b ∷ bs) = pick (eqb b 10) ((b ∷ []) ∷ cut_after_lf bs) (onto b (cut_after_lf bs))

-- how a line ends as the reader gets it: with "CR LF", as it was written; with LF; or bare, from a collector that cuts at LF and drops a CR
pub data LineEnd : Type 0 where
  crlf : LineEnd
  lf : LineEnd
  bare : LineEnd

abbrev pub end_text : LineEnd → List ℕ
end_text crlf = 13 ∷ 10 ∷ []
end_text lf = 10 ∷ []
end_text bare = []

-- a line that was written, handed on with another ending for its CR LF
abbrev pub handed_on : LineEnd → List ℕ → List ℕ
handed_on ends line = take (length line - 2) line ++ end_text ends
