-- `trace_commands::words::digit` meets its contract. Assumes nothing.
use native.Mathlib.Omega.{arith}
use Rattle.trace_commands.proofs.Readings.{digit-decimal, digit-letter, digit-below, digit-between, digit_above}
use Rattle.trace_commands.proofs.words.digit.Goals as goal

pub returns-in-48-to-57 : goal.returns-in-48-to-57
returns-in-48-to-57 c = digit-decimal c.args.b (omega arith) (omega arith)

pub returns-in-97-to-102 : goal.returns-in-97-to-102
returns-in-97-to-102 c = digit-letter c.args.b (omega arith) (omega arith)

pub returns-in_default : goal.returns-in_default
returns-in_default c = digit-below c.args.b (omega arith)

pub returns-in_default-2 : goal.returns-in_default-2
returns-in_default-2 c = digit-between c.args.b (omega arith) (omega arith)

pub returns-in_default-3 : goal.returns-in_default-3
returns-in_default-3 c = digit_above c.args.b (omega arith)
