-- `check`: each way out is one law (proofs/Called). Assumes nothing.
use mathlib.Core.Path.{sym, ◌∙◌}
use native.Mathlib.Omega.{arith}
use Rattle.ais.proofs.Called.{check-room, check-bit-room, check_long, check_broken, check-sum, check-taken}
use Rattle.ais.proofs.check.Goals as goal

pub returns-then-room-lt384 : goal.returns-then-room-lt384
returns-then-room-lt384 c = check-room c.args.line.now c.args.room c.args.bit_room (omega arith)

pub returns-then-bit_room-lt288 : goal.returns-then-bit_room-lt288
returns-then-bit_room-lt288 c = check-bit-room c.args.line.now c.args.room c.args.bit_room (omega arith) (omega arith)

pub returns-then-line-gt1024 : goal.returns-then-line-gt1024
returns-then-line-gt1024 c = check_long c.args.line.now c.args.room c.args.bit_room (omega arith) (omega arith) (omega arith)

pub returns-then-expected-found : goal.returns-then-expected-found
returns-then-expected-found c =
    check-sum c.args.line.now c.args.room c.args.bit_room (omega arith) (omega arith) (omega arith) _
    (sym c.parse_nmea_sentence.ensures ∙ c.in-Ok.is) c.if-expected-found.true

pub returns-in_default : goal.returns-in_default
returns-in_default c =
    check_broken c.args.line.now c.args.room c.args.bit_room (omega arith) (omega arith) (omega arith) _
    (sym c.parse_nmea_sentence.ensures ∙ c.in_default.is)

pub returns : goal.returns
returns c =
    check-taken c.args.line.now c.args.room c.args.bit_room (omega arith) (omega arith) (omega arith) _
    (sym c.parse_nmea_sentence.ensures ∙ c.in-Ok.is) c.if-expected-found.false
