-- `spread_by`: the groups, and then up to two bytes more, each after those that stand there. Assumes nothing.
use mathlib.Core.Path.{◌≡◌}
use mathlib.Core.List.{List, ◌++◌}
use Prim.Native.Nat.{ℕ, ◌+◌, ◌*◌, ◌/◌, ◌≤◌}
use native.Mathlib.Omega.{arith}
use lib.ListN.{length, set, drop}
use Rattle.parsers.specs.Bits.{val, pack}
use Rattle.parsers.proofs.Laws.{pack-set, val_field}
use Rattle.armour.specs.Armour.{stream}
use Rattle.armour.proofs.Armoured.spread_by.Goals as goal

-- one byte after j bytes, and two
module _ (f : ℕ → ℕ) (j need : ℕ) (d out : List ℕ) (x : ℕ) where
  rest-one : need ≡ j + 1 → need ≤ length d → out ≡ pack 8 j f ++ drop j d → x ≡ val f (j * 8) 8 → set out j x ≡ pack 8 need f ++ drop need d
  rest-one n h e p = rw (n, e, p, pack-set 8 j f d (omega arith))

  rest-two : (y : ℕ) → need ≡ j + 1 + 1 → need ≤ length d → out ≡ pack 8 j f ++ drop j d → x ≡ val f (j * 8) 8 → y ≡ val f ((j + 1) * 8) 8
      → set (set out j x) (j + 1) y ≡ pack 8 need f ++ drop need d
  rest-two y n h e p q = rw (n, e, p, pack-set 8 j f d (omega arith), q, pack-set 8 (j + 1) f d (omega arith))

pub returns-then-need-done : goal.returns-then-need-done
returns-then-need-done c =
    let e : c.args.need / 3 * 3 ≡ c.args.need = omega (arith, c.if-need-done.true) in
    rw (← e) (c.put_groups.ensures (stream c.args.self.now.payload.now c.args.self.now.fill) c.put_sixes.ensures)

pub returns-then-need-done-2 : goal.returns-then-need-done-2
returns-then-need-done-2 c =
    let f = stream c.args.self.now.payload.now c.args.self.now.fill in
    let g = c.args.need / 3 in
    rest-one f (g * 3) c.args.need c.args.out.now _ _ (omega (arith, c.if-need-done-2.true, c.if-need-done.false)) c.requires.1 (c.put_groups.ensures f c.put_sixes.ensures)
    (val_field f c.put_sixes.ensures.bit (g * 4 * 6) 0 8 16 24 (g * 3 * 8) (c.four_at-v.ensures f c.put_sixes.ensures) (omega arith) (omega arith))

pub returns : goal.returns
returns c =
    let f = stream c.args.self.now.payload.now c.args.self.now.fill in
    let g = c.args.need / 3 in
    let four = c.four_at-v.ensures f c.put_sixes.ensures in
    rest-two f (g * 3) c.args.need c.args.out.now _ _ _ (omega (arith, c.if-need-done-2.false)) c.requires.1 (c.put_groups.ensures f c.put_sixes.ensures)
    (val_field f c.put_sixes.ensures.bit (g * 4 * 6) 0 8 16 24 (g * 3 * 8) four (omega arith) (omega arith))
    (val_field f c.put_sixes.ensures.bit (g * 4 * 6) 8 8 8 24 ((g * 3 + 1) * 8) four (omega arith) (omega arith))
