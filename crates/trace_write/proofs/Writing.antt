-- The writer as it is shown, from its contract. Assumes nothing.
use Prim.Native.Nat.{ℕ}
use mathlib.Core.Path.{◌≡◌, ap, ◌∙◌}
use mathlib.Core.List.{List}
use lib.ListN.{length}
use Rattle.refusal.specs.Words.{Told}
use Rattle.text_out.specs.Text.{Text, put, ascii}
use Rattle.writer.specs.Writer.{written_in, answer_of, Writes}
use Rattle.writer.specs.declared.Request.{Request}
use Rattle.refusal.specs.declared.Refusal.{Refusal}
use Rattle.std.specs.Prelude.{Result}
use Rattle.trace_show.specs.Shown.{fill_shown}
use Rattle.trace_write.specs.Write.{write_shown}

pub write_shown_lem : (q : Request) (d lent : List ℕ) (r : Result ℕ Refusal) (after : List ℕ) → Writes q d lent r after
    → (x y : Text) → y ≡ put x (fill_shown (ascii "lines ") (written_in r) after) → y ≡ put x (write_shown q d lent)
write_shown_lem q d lent r after u x y e =
    e ∙ ap (λ (t : Told ℕ). put x (fill_shown (ascii "lines ") t after)) u.answers
    ∙ ap (λ (l : List ℕ). put x (fill_shown (ascii "lines ") (answer_of q d (length lent)) l)) u.leaves
