-- `char_at` meets its contract: six bits before the end, or the last, of which some lie past it. Assumes nothing.
use Prim.Native.Nat.{ℕ, ◌-◌, ◌*◌, ◌/◌, ◌^◌}
use mathlib.Core.Path.{ap, ◌∙◌}
use native.Mathlib.Nat.{mod-eq_of_lt, div-mul-le_self}
use native.Mathlib.Omega.{arith}
use Rattle.armour.specs.Armour.{letter}
use Rattle.writer.proofs.Characters.{char_whole, char_last, cleared_small}
use Rattle.writer.proofs.char_at.Goals as goal

pub letter_of-requires : goal.letter_of-requires
letter_of-requires c = cleared_small _ _ c.field-v.ensures.fits

pub returns-then-left-lt6 : goal.returns-then-left-lt6
returns-then-left-lt6 c =
    let e = 6 - (c.args.count - c.args.i * 6) in
    let p = 2 ^ e in
    c.letter_of.ensures ∙ ap letter (mod-eq_of_lt (omega (arith, div-mul-le_self c.field-v.result p)) ∙ ap (λ (v : ℕ). v / p * p) c.field-v.ensures.is)
    ∙ char_last c.args.bits.now c.args.count c.args.i (omega arith) e (omega arith) (omega arith)

pub returns : goal.returns
returns c = c.letter_of-2.ensures ∙ ap letter c.field-v.ensures.is ∙ char_whole c.args.bits.now c.args.count c.args.i (omega arith) (omega arith)
