-- `receive`: no room, or the payload handed out (proofs/Received). Assumes nothing.
use native.Mathlib.Omega.{arith}
use mathlib.Core.Path.{◌∙◌}
use lib.ListN.{length}
use borrow.Author.Tests.{lt-ltb, le-ltb}
use Rattle.ais.proofs.Received.{receiving_room, receiving_large}
use borrow.Author.Rules.{rules}
use Rattle.ais.proofs.receive.Goals as goal

pub returns-then-payload-lt384 : goal.returns-then-payload-lt384
returns-then-payload-lt384 c =
    rw c.refused.ensures
    (receiving_room c.args.state c.args.s c.args.own.now c.args.decode c.args.payload.now c.args.bits.now
    (rw (lt-ltb (length c.args.payload.now) 384 c.if-payload-lt384.true)))

pub returns-then-bits-lt288 : goal.returns-then-bits-lt288
returns-then-bits-lt288 c =
    rw c.refused-then-bits-lt288.ensures
    (receiving_room c.args.state c.args.s c.args.own.now c.args.decode c.args.payload.now c.args.bits.now
    (rw (le-ltb (length c.args.payload.now) 384 c.if-payload-lt384.false, lt-ltb (length c.args.bits.now) 288 c.if-bits-lt288.true)))

pub returns : goal.returns
returns c =
    c.hand.ensures
    ∙ receiving_large c.args.state c.args.s c.args.own.now c.args.decode c.args.payload.now c.args.bits.now (search rules)
    (record { room = omega arith; bit_room = omega arith })
