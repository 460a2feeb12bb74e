-- Whether a word names an input, by its length and its first byte. Assumes nothing.
use borrow.Author.Tests.{lt-ltb, le-ltb}
use Rattle.inputs.specs.Words.{is_input}
use Rattle.inputs.proofs.is_input.Goals as goal

pub returns-then-word-lt2 : goal.returns-then-word-lt2
unfolding is_input
returns-then-word-lt2 c = rw (lt-ltb _ _ c.if-word-lt2.true)

pub returns : goal.returns
unfolding is_input
returns c = rw (le-ltb _ _ c.if-word-lt2.false)
