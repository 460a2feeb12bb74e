-- Laws of what is put into an output, for callers. Assumes nothing.
use Rattle.std.specs.Prelude.{List, [], ◌++◌, ℕ}
use mathlib.Core.Path.{refl, sym, ◌∙◌}
use Rattle.text_out.specs.declared.Output.{Output}
use Rattle.text_out.specs.Output.{stands, Puts}
use Rattle.text_out.proofs.Laws.{put_then, put-nothing}

-- a piece after what was put: how a caller joins its calls
pub puts_then : (x y z : Output) (s t : List ℕ) → Puts x y s → Puts y z t → Puts x z (s ++ t)
puts_then x y z s t e f = record { same = f.same ∙ e.same; is = put_then (stands x) s t e.is f.is }

-- where nothing is put
pub puts_nothing : (x : Output) → Puts x x []
puts_nothing x = record { same = refl; is = sym (put-nothing (stands x)) }
