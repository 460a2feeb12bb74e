-- `face_values::put_rate` meets its contract. Assumes nothing.
use Rattle.std.proofs.Common.{rules}
use mathlib.Core.Path.{◌∙◌, ap}
use borrow.Author.Tests.{lt-ltb, le-ltb}
use Prim.Native.Nat.{ℕ}
use Rattle.text_out.specs.Text.{put}
use Rattle.face_values.specs.Rate.{patterns, fixed_nine, rate_in}
use Rattle.text_out.specs.Output.{stands}
use Rattle.face_values.proofs.put_rate.Goals as goal

pub returns-then-pattern-ge1266679808 : goal.returns-then-pattern-ge1266679808
unfolding rate_in
returns-then-pattern-ge1266679808 c = record { same = search rules; is = rw (le-ltb _ patterns c.if-pattern-ge1266679808.true) c.put_bytes.ensures.is }

pub returns : goal.returns
unfolding rate_in
returns c = record {
  same = search rules;
  is = rw (lt-ltb _ patterns c.if-pattern-ge1266679808.false)
      (c.put_count.ensures.is ∙ ap (λ (n : ℕ). put (stands c.args.out.now) (fixed_nine n)) c.billionths-n.ensures);
}
