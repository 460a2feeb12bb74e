-- `Output::put_bytes` meets its contract. Assumes nothing.
use Rattle.std.proofs.Common.{rules}
use native.Mathlib.Omega.{arith}
use Rattle.text_out.proofs.Copied.{copied_put}
use Rattle.text_out.proofs.Output.put_bytes.Goals as goal

pub returns-then-s-self : goal.returns-then-s-self
returns-then-s-self c = record {
  same = search rules;
  is = copied_put c.args.self.now.at c.args.self.now.buffer.now c.args.s.now (omega arith) _ c.copy_from_slice.ensures.after;
}
