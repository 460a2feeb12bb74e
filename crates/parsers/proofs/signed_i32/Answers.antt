-- `signed_i32`: the field, read as two's complement. Assumes nothing.
use mir.Syntax.{w32}
use borrow.Author.Tests.{le-leb, lt-leb}
use mir.Facts.{to_z-of_z}
use Rattle.parsers.specs.Field.{signed_of}
use Rattle.parsers.proofs.signed_i32.Goals as goal

pub returns-then-width-gt32 : goal.returns-then-width-gt32
unfolding signed_of
returns-then-width-gt32 c = rw (lt-leb _ 32 c.if-width-gt32.true)

pub returns : goal.returns
unfolding signed_of
returns c =
    rw (le-leb _ 32 c.if-width-gt32.false, ← c.field.ensures.is, ← c.signed_of.ensures)
    (to_z-of_z {w = w32} {z = c.signed_of.result} (record { sfits = c.signed_of.type_inv }))
