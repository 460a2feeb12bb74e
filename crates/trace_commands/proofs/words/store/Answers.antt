-- `trace_commands::words::store` meets its contract: the bytes stored and those of the rest are the word's. Assumes nothing.
use Prim.Native.Nat.{◌+◌, ◌*◌}
use native.Mathlib.Omega.{arith}
use mathlib.Core.Path.{◌≡◌, sym, ap, ◌∙◌}
use Rattle.std.proofs.Common.{rules}
use Rattle.text_out.specs.Text.{Text, text, put}
use Rattle.text_out.specs.Output.{stands}
use Rattle.text_out.proofs.Laws.{put-nothing}
use Rattle.trace_commands.specs.Hex.{bytes_of}
use Rattle.trace_commands.proofs.Readings.{hex-at, pair_end, store_next}
use Rattle.trace_commands.proofs.words.store.Goals as goal

pub overflow_mul-digit : goal.overflow_mul-digit
overflow_mul-digit c = omega (arith, c.digit.ensures, hex-at c.args.w.now c.requires (2 * c.loop-i.i) (omega arith))

pub overflow_add-digit : goal.overflow_add-digit
overflow_add-digit c =
    omega (
      arith,
      c.digit.ensures,
      c.digit-in-loop-i.ensures,
      hex-at c.args.w.now c.requires (2 * c.loop-i.i) (omega arith),
      hex-at c.args.w.now c.requires (2 * c.loop-i.i + 1) (omega arith),
    )

pub loop-i-preserved : goal.loop-i-preserved
loop-i-preserved c = record {
  same = search rules;
  is =
      let z : 2 * (c.loop-i.i + 1) ≡ 2 * c.loop-i.i + 2 = omega arith in
      rw z
      (store_next c.args.w.now (2 * c.loop-i.i) (stands c.loop-i.out) _ _ (c.digit.result * 16 + c.digit-in-loop-i.result) (omega arith) (cc)
      c.put_byte.ensures.is c.loop-i.invariant.is);
}

pub returns : goal.returns
returns c =
    let t = stands c.loop-i.out in
    ap (text c.loop-i.out.at) (search rules)
    ∙ sym (ap (put t) (pair_end c.args.w.now (2 * c.loop-i.i) (omega arith) (omega arith)) ∙ put-nothing t)
    ∙ c.loop-i.invariant.is ∙ ap (λ (x : Text). put x (bytes_of c.args.w.now)) c.new-out.ensures.is
