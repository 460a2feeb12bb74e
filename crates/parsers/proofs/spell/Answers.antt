-- `spell`: the characters stand first, zeros after them. Assumes nothing.
use native.Mathlib.Numerals.{add-one}
use Prim.Native.Nat.{ℕ, ◌+◌, ◌*◌, ◌<◌}
use native.Mathlib.Omega.{arith}
use mathlib.Core.Path.{◌≡◌, refl}
use lib.ListN.{length, replicate, length-set}
use Rattle.parsers.specs.Text.{chars_of}
use Rattle.parsers.proofs.Laws.{snoc_set}
use Rattle.parsers.proofs.Texts.{char_from, chars-length}
use Rattle.parsers.proofs.spell.Goals as goal

pub loop-i-init : goal.loop-i-init
unfolding chars_of
loop-i-init c = (refl, refl)

pub loop-i-preserved : goal.loop-i-preserved
unfolding chars_of
loop-i-preserved c =
    let s = chars_of c.args.bytes.now (c.args.at + c.args.start * 6) c.loop-i.i in
    let e = char_from c.args.bytes.now c.args.at c.args.start (c.args.start + c.loop-i.i) c.loop-i.i refl in
    let h : c.loop-i.i < length (replicate {A = ℕ} 20 0) = omega arith in (
      simp length-set c.loop-i.invariant.0,
      rw (c.loop-i.invariant.1, c.ascii_at.ensures, e, snoc_set s c.loop-i.i _ (replicate 20 0) (chars-length _ _ _) h, add-one c.loop-i.i),
    )

pub returns : goal.returns
returns c =
    let e : c.loop-i.i ≡ c.args.count = omega arith in
    rw (chars-length c.args.bytes.now (c.args.at + c.args.start * 6) c.args.count, c.loop-i.invariant.1, e)
