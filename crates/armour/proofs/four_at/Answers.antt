-- `four_at`: one character after the other joined by a shift (`val-join`). Assumes nothing.
use mathlib.Core.Path.{refl, ◌∙◌}
use Prim.Native.Nat.{◌+◌, ◌*◌}
use native.Mathlib.Omega.{arith}
use Rattle.parsers.proofs.Laws.{val_join}
use Rattle.armour.proofs.four_at.Goals as goal

pub returns : goal.returns
returns c = λ f s.
    let a = c.wide-a.ensures ∙ s.six c.args.i in
    let b = c.wide-b.ensures ∙ s.six (c.args.i + 1) in
    let two = val_join f s.bit (c.args.i * 6) 6 6 32 12 ((c.args.i + 1) * 6) a b (omega arith) refl (omega arith) in
    let three =
    val_join f s.bit (c.args.i * 6) 12 6 32 18 ((c.args.i + 2) * 6) two (c.wide-c.ensures ∙ s.six (c.args.i + 2)) (omega arith) refl (omega arith) in
    val_join f s.bit (c.args.i * 6) 18 6 32 24 ((c.args.i + 3) * 6) three (c.wide-d.ensures ∙ s.six (c.args.i + 3)) (omega arith) refl (omega arith)
