-- `face_values::put_pair` meets its contract. Assumes nothing.
use Rattle.std.proofs.Common.{rules}
use Prim.Native.Nat.{◌/◌, ◌%◌}
use native.Mathlib.Omega.{arith}
use mathlib.Core.Path.{◌≡◌, sym, ap, ◌∙◌}
use Rattle.scan.specs.Scan.{capital}
use Rattle.face_values.proofs.put_pair.Goals as goal

pub returns : goal.returns
returns c = record {
  same = search rules;
  is = let n = c.args.n in
      let high : n / 16 % 16 % 16 ≡ n / 16 % 16 = omega arith in
      let low : n % 16 % 16 ≡ n % 16 = omega arith in
      rw (sym (c.capital_digit.ensures ∙ ap capital high), sym (c.capital_digit-2.ensures ∙ ap capital low)) c.put_bytes.ensures.is;
}
