-- `face_rows::first` meets its contract. Assumes nothing.
use Rattle.text_out.proofs.Laws.{take_min}
use Prim.Native.Nat.{ℕ}
use lib.ListN.{take}
use mathlib.Core.Path.{◌∙◌, ap}
use Rattle.face_rows.proofs.first.Goals as goal

pub returns : goal.returns
returns c = ap (λ (k : ℕ). take k c.args.s.now) c.up_to-k.ensures.value ∙ take_min c.args.n c.args.s.now
