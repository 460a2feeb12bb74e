-- `put_groups`: the first k groups stand there, and all further bytes as they were. Assumes nothing.
use mathlib.Core.Path.{◌≡◌, refl, ap, ◌∙◌}
use Prim.Native.Nat.{ℕ, ◌+◌, ◌*◌, ◌/◌, ◌^◌}
use native.Mathlib.Omega.{arith}
use lib.Bits.{bit_and}
use lib.ListN.{length-set}
use Rattle.parsers.specs.Bits.{val, pack}
use Rattle.parsers.proofs.Laws.{val_field}
use Rattle.armour.proofs.Laws.{pack_three}
use Rattle.armour.proofs.put_groups.Goals as goal

pub loop-k-init : goal.loop-k-init
unfolding pack
loop-k-init c = (refl, λ f s. refl)

pub loop-k-preserved : goal.loop-k-preserved
loop-k-preserved c =
    let same : c.four_at-v.result ≡ c.four_at-v.result / 2 ^ 0 = omega arith in (
      simp length-set c.loop-k.invariant.0,
      λ f s.
          let four = c.four_at-v.ensures f s in
          let last : bit_and c.four_at-v.result 255 ≡ val f ((c.loop-k.k * 3 + 2) * 8) 8 =
          ap (λ (n : ℕ). bit_and n 255) same ∙ val_field f s.bit (c.loop-k.k * 4 * 6) 16 8 0 24 ((c.loop-k.k * 3 + 2) * 8) four (omega arith) (omega arith) in
          pack_three f c.loop-k.k c.args.out.now c.loop-k.out _ _ _ (omega arith) (c.loop-k.invariant.1 f s)
          (val_field f s.bit (c.loop-k.k * 4 * 6) 0 8 16 24 (c.loop-k.k * 3 * 8) four (omega arith) (omega arith))
          (val_field f s.bit (c.loop-k.k * 4 * 6) 8 8 8 24 ((c.loop-k.k * 3 + 1) * 8) four (omega arith) (omega arith))
          last,
    )

pub returns : goal.returns
returns c = λ f s.
    let e : c.loop-k.k ≡ c.args.groups = omega arith in
    rw (← e) (c.loop-k.invariant.1 f s)
