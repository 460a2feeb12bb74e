-- `last_six`: shifted down and up again. Assumes nothing.
use mathlib.Core.Path.{ap, ◌∙◌}
use Prim.Native.Nat.{ℕ, ◌*◌, ◌/◌, ◌^◌}
use native.Mathlib.Nat.{mod-eq_of_lt, div-mul-le_self}
use native.Mathlib.Omega.{arith}
use Rattle.armour.proofs.last_six.Goals as goal

pub returns : goal.returns
returns c =
    let p = 2 ^ c.args.fill in
    mod-eq_of_lt (omega (arith, div-mul-le_self c.value.result p, c.value.ensures, c.requires.0)) ∙ ap (λ (x : ℕ). x / p * p) c.value.ensures
