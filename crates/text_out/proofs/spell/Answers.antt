-- `text_out::spell` meets its contract: the digits of what is left and those that stand last are the whole. Assumes nothing.
use native.Mathlib.Omega.{arith}
use mathlib.Core.List.{append-nil}
use lib.ListN.{length-set, drop_of_length-le}
use Rattle.text_out.specs.Digits.{decimal_in}
use Rattle.text_out.proofs.Decimals.{digits-turn, digits_last}
use Rattle.text_out.proofs.spell.Goals as goal

-- LOST same-length
-- same_length c = simp length-set (c.before.before.loop.invariant.4 ∙ sym c.before.before.before.before.requires)

pub loop-rest-init : goal.loop-rest-init
loop-rest-init c = (
  rw (drop_of_length-le c.args.digits.now {i = 20} (omega (arith, c.requires))) (append-nil (decimal_in 20 c.args.n)),
  omega arith,
  omega arith,
  omega arith,
  c.requires,
)

pub loop-rest-preserved : goal.loop-rest-preserved
loop-rest-preserved c =
    let t =
    digits-turn (decimal_in 20 c.args.n) c.loop-rest.digits c.digit_of.result c.loop-rest.rest c.loop-rest.i (omega arith) c.loop-rest.invariant.1 (omega arith)
    c.digit_of.ensures c.loop-rest.invariant.0 in
    (t.0, t.1, omega (arith, t.2), omega arith, simp length-set c.loop-rest.invariant.4)

pub returns : goal.returns
returns c =
    record {
      digits_after = digits_last (decimal_in 20 c.args.n) c.loop-rest.digits c.digit_of-2.result c.loop-rest.rest c.loop-rest.i c.loop-rest.invariant.2 (omega arith) (omega arith)
          c.digit_of-2.ensures c.loop-rest.invariant.0;
      upper_bound = (omega arith, simp length-set c.loop-rest.invariant.4);
    }
