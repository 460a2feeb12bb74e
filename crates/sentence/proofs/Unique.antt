-- What a line is answered, by document 01's numbers. The promise, `parsed_of`, is an equation on the answer itself and tells the place too. And of a tag block
-- nothing is lost: the place after it is told by what was read. Assumes nothing.
use mathlib.Core.Path.{◌≡◌, refl, ap, ◌∙◌}
use mathlib.Core.List.{List, []}
use Prim.Native.Nat.{ℕ}
use Rattle.refusal.specs.Words.{taken, refused}
use Rattle.scan.specs.Rule.{Read, read, bad, on_read}
use Rattle.sentence.specs.Line.{line, parsed, parsed_of, Parsed}
use Rattle.sentence.specs.Answers.{parsed_in, line_told}
use Rattle.sentence.specs.declared.AisSentence.{AisSentence}

told-by : (result : Read AisSentence) → parsed_in (parsed result) ≡ on_read result (λ t _. taken t) (λ _. refused 2 [])
told-by (read t next) = refl
told-by (bad place) = refl

pub answers : (s : List ℕ) (r : Parsed) → r ≡ parsed_of s → parsed_in r ≡ line_told s
unfolding parsed_of
answers s r e = ap parsed_in e ∙ told-by (line s 0)

-- the place after a tag block is told by what its rule reads
pub same_block : (m n : ℕ) → ◌≡◌ {A = Read Unit} (read tt m) (read tt n) → m ≡ n
same_block m n e = ap (λ (r : Read Unit). on_read r (λ _ next. next) (λ place. place)) e
