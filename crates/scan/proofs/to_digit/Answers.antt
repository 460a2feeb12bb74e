-- `to_digit` meets its contract. Assumes nothing.
use Rattle.std.proofs.Common.{rules}
use Rattle.scan.specs.Scan.{digit_of}
use Rattle.scan.proofs.to_digit.Goals as goal

pub returns-in_err-d : goal.returns-in_err-d
unfolding digit_of
returns-in_err-d c = search rules

pub returns-then-from-radix : goal.returns-then-from-radix
unfolding digit_of
returns-then-from-radix c = search rules

pub returns : goal.returns
unfolding digit_of
returns c = search rules
