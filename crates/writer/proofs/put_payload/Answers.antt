-- `put_payload` meets its contract: what is put so far and what is left are the whole. Assumes nothing.
use Rattle.std.proofs.Common.{rules}
use mathlib.Core.Path.{◌≡◌, sym, ap, ◌∙◌}
use mathlib.Core.List.{[], ◌∷◌}
use Prim.Native.Nat.{ℕ}
use native.Mathlib.Omega.{arith}
use lib.ListN.{length, take}
use lib.Seq.{length-take-le, get_or-take}
use Rattle.text_out.specs.Text.{put}
use Rattle.text_out.specs.Output.{stands}
use Rattle.text_out.proofs.Strings.{bytes_step, bytes-end}
use Rattle.writer.specs.Message.{armoured}
use Rattle.writer.proofs.Armoured.{length-armoured}
use Rattle.writer.proofs.put_payload.Goals as goal

pub loop-i-preserved : goal.loop-i-preserved
loop-i-preserved c = record {
  same = search rules;
  is =
      let a = armoured c.args.bits.now c.args.count in
      let n : length (take c.args.to a) ≡ c.args.to = length-take-le c.args.to a (omega (arith, length-armoured c.args.bits.now c.args.count)) in
      bytes_step (stands c.loop-i.out) _ _ (take c.args.to a) c.loop-i.i (omega arith)
      (c.put_byte.ensures.is ∙ ap (λ (b : ℕ). put (stands c.loop-i.out) (b ∷ []))
      (c.char_at.ensures ∙ sym (get_or-take c.args.to a c.loop-i.i 0 (omega arith))))
      c.loop-i.invariant.is;
}

pub returns : goal.returns
returns c = record {
  same = search rules;
  is =
      let a = armoured c.args.bits.now c.args.count in
      let n : length (take c.args.to a) ≡ c.args.to = length-take-le c.args.to a (omega (arith, length-armoured c.args.bits.now c.args.count)) in
      sym (bytes-end (stands c.loop-i.out) (take c.args.to a) c.loop-i.i (omega arith)) ∙ c.loop-i.invariant.is;
}
