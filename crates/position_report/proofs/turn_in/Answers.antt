-- `position_report::turn_in` meets its contract: eight signed bits fit an `i8`, which is handed on as read. Assumes nothing.
use borrow.Author.Rules.{sfits_of}
use mathlib.Core.Path.{◌≡◌, ap, ◌∙◌}
use mathlib.Core.List.{List}
use Prim.Native.Nat.{ℕ, ◌*◌, ◌^◌, ◌<◌}
use native.Mathlib.Omega.{arith}
use lib.IntN.{ℤ}
use lib.Signed.{mag}
use mir.Syntax.{w8, w32}
use mir.Val.{SFits, of_z, to_z}
use mir.Facts.{to_z-of_z}
use Rattle.parsers.specs.Field.{signed_of}
use Rattle.parsers.proofs.Fields.{signed_half}
use Rattle.navigation.specs.Navigation.{turn_of}
use Rattle.position_report.proofs.turn_in.Goals as goal

-- what is read lies in half of 2 ^ 8 on either side of 0
fits : (d : List ℕ) (z : ℤ) → z ≡ signed_of d 42 8 → SFits w8 z
fits d z e =
    let h : mag z * 2 < 2 ^ 8 = rw e (signed_half d 42 8) in
    record { sfits = omega arith }

pub overflow_cast-signed_i32 : goal.overflow_cast-signed_i32
overflow_cast-signed_i32 c =
    rw (to_z-of_z {w = w32} {z = c.signed_i32.result} (sfits_of c.signed_i32.type_inv)) (fits c.args.bytes.now c.signed_i32.result c.signed_i32.ensures)

pub returns : goal.returns
returns c =
    let z = c.signed_i32.result in
    c.parse.ensures
    ∙ ap turn_of
    (ap (λ (y : ℤ). to_z w8 (of_z w8 y)) (to_z-of_z {w = w32} {z = z} (sfits_of c.signed_i32.type_inv))
    ∙ to_z-of_z {w = w8} {z = z} (fits c.args.bytes.now z c.signed_i32.ensures)
    ∙ c.signed_i32.ensures)
