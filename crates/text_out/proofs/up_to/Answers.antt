-- `text_out::up_to` meets its contract. Assumes nothing.
use native.Mathlib.Omega.{arith}
use mathlib.Core.Path.{sym}
use lib.ListN.{length}
use lib.Seq.{length-take-le}
use Rattle.text_out.proofs.up_to.Goals as goal

pub returns-then-n-s : goal.returns-then-n-s
returns-then-n-s c =
    record {
      value = omega arith;
      upper_bound = (omega arith, sym (length-take-le c.args.n c.args.s.now (omega arith)));
    }

pub returns-else-n-s : goal.returns-else-n-s
returns-else-n-s c =
    record {
      value = omega arith;
      upper_bound = (omega arith, sym (length-take-le (length c.args.s.now) c.args.s.now (omega arith)));
    }
