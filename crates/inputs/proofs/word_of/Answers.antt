-- What a word is, by the two words that every program knows. Assumes nothing.
use Rattle.std.proofs.Common.{sym}
use Rattle.lines.proofs.Same.{equal_says}
use Rattle.inputs.specs.Words.{word_of}
use Rattle.inputs.proofs.word_of.Goals as goal

pub returns-then-eq : goal.returns-then-eq
unfolding word_of
returns-then-eq c = rw (equal_says _ _ _ _ c.if-eq.ensures c.as_slice.ensures)

pub returns-then-eq-2 : goal.returns-then-eq-2
unfolding word_of
returns-then-eq-2 c = rw (equal_says _ _ _ _ c.if-eq.ensures c.as_slice.ensures, equal_says _ _ _ _ c.if-eq-2.ensures c.as_slice-2.ensures)

pub returns-then-is_input : goal.returns-then-is_input
unfolding word_of
returns-then-is_input c =
    rw (equal_says _ _ _ _ c.if-eq.ensures c.as_slice.ensures, equal_says _ _ _ _ c.if-eq-2.ensures c.as_slice-2.ensures, sym c.if-is_input.ensures)

pub returns : goal.returns
unfolding word_of
returns c =
    rw (equal_says _ _ _ _ c.if-eq.ensures c.as_slice.ensures, equal_says _ _ _ _ c.if-eq-2.ensures c.as_slice-2.ensures, sym c.if-is_input.ensures)
