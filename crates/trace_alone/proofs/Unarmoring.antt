-- Unarmoring as it is shown, from its contract. Assumes nothing.
use Rattle.std.proofs.Common.{Result}
use Prim.Native.Nat.{ℕ}
use mathlib.Core.Path.{◌≡◌, ap, ◌∙◌}
use mathlib.Core.List.{List}
use lib.ListN.{length}
use Rattle.refusal.specs.Words.{Told}
use Rattle.text_out.specs.Text.{Text, put, ascii}
use Rattle.armour.specs.Unarmor.{unarmored_in, answer_of, Unarmors}
use Rattle.refusal.specs.declared.Refusal.{Refusal}
use Rattle.trace_show.specs.Shown.{fill_shown}
use Rattle.trace_alone.specs.Unarmor.{unarmor_shown}

pub unarmor_shown_lem : (s : List ℕ) (fill : ℕ) (lent : List ℕ) (r : Result ℕ Refusal) (after : List ℕ) → Unarmors s fill lent r after
    → (x y : Text) → y ≡ put x (fill_shown (ascii "bytes ") (unarmored_in r) after) → y ≡ put x (unarmor_shown s fill lent)
unarmor_shown_lem s fill lent r after u x y e =
    e ∙ ap (λ (t : Told ℕ). put x (fill_shown (ascii "bytes ") t after)) u.answers
    ∙ ap (λ (l : List ℕ). put x (fill_shown (ascii "bytes ") (answer_of s fill (length lent)) l)) u.leaves
