-- `face_rows::part` meets its contract. Assumes nothing.
use native.Mathlib.Omega.{arith}
use Prim.Native.Nat.{ℕ, ◌-◌}
use mathlib.Core.Path.{ap, ◌∙◌}
use lib.ListN.{length, take, drop, length-drop}
use lib.Seq.{take_all}
use Rattle.face_rows.proofs.Parts.{drop_min}
use Rattle.face_rows.proofs.part.Goals as goal

pub returns : goal.returns
returns c =
    c.first.ensures
    ∙ ap (take c.args.n)
    (take_all (length c.args.s.now - c.up_to-a.result) (drop c.up_to-a.result c.args.s.now) (omega (arith, length-drop c.up_to-a.result c.args.s.now))
    ∙ ap (λ (i : ℕ). drop i c.args.s.now) c.up_to-a.ensures.value ∙ drop_min c.args.from c.args.s.now)
