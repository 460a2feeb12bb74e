-- `take_bits`: the field ends within the bytes, or it is past them. Assumes nothing.
use mathlib.Core.Path.{sym, ap, ◌∙◌}
use native.Mathlib.Omega.{arith}
use Rattle.refusal.specs.Words.{taken}
use Rattle.parsers.proofs.Fields.{taken_wide, taken-past, taken_in}
use Rattle.parsers.proofs.take_bits.Goals as goal

pub returns-then-width-gt56 : goal.returns-then-width-gt56
returns-then-width-gt56 c = sym (taken_wide _ _ _ c.if-width-gt56.true)

pub returns-then-bytes-first : goal.returns-then-bytes-first
returns-then-bytes-first c = sym (taken-past _ _ _ (omega arith) (omega arith))

pub returns-then-bytes-first-2 : goal.returns-then-bytes-first-2
returns-then-bytes-first-2 c = sym (taken-past _ _ _ (omega arith) (omega arith))

pub returns : goal.returns
returns c = ap taken c.field.ensures.is ∙ sym (taken_in _ _ _ (omega arith) (omega arith))
