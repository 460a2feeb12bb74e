-- `Output::put_decimal` meets its contract. Assumes nothing.
use Rattle.std.proofs.Common.{rules}
use native.Mathlib.Omega.{arith}
use Prim.Native.Nat.{ℕ, ◌-◌}
use lib.ListN.{drop, length-drop}
use lib.Seq.{take_all}
use mathlib.Core.Path.{sym, ap, ◌∙◌}
use mathlib.Core.List.{[], ◌∷◌}
use Rattle.text_out.specs.Text.{put}
use Rattle.text_out.specs.Output.{stands}
use Rattle.text_out.proofs.Decimals.{one-digit}
use Rattle.text_out.proofs.Output.put_decimal.Goals as goal

pub returns-then-n-lt10 : goal.returns-then-n-lt10
returns-then-n-lt10 c = record {
  same = search rules;
  is =
      c.put_byte.ensures.is
      ∙ ap (λ (d : ℕ). put (stands c.args.self.now) (d ∷ [])) c.digit_of.ensures
      ∙ ap (put (stands c.args.self.now)) (sym (one-digit c.args.n (omega arith)));
}

pub returns : goal.returns
returns c = record {
  same = search rules;
  is =
      c.put_bytes.ensures.is
      ∙ ap (put (stands c.args.self.now))
      (take_all (20 - c.spell-i.result) (drop c.spell-i.result c.spell-i.new.digits) (omega (arith, length-drop c.spell-i.result c.spell-i.new.digits, c.spell-i.ensures.upper_bound.1)) ∙ c.spell-i.ensures.digits_after);
}
