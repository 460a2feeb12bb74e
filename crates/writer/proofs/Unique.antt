-- The promise of the writer has one outcome, and its refusals are given exactly when they should be. Assumes nothing.
use mathlib.Core.Logic.{◌↔◌}
use mathlib.Core.Path.{◌≡◌, refl, sym, ap, ◌∙◌}
use mathlib.Core.List.{List}
use Rattle.std.specs.Prelude.{Result, Ok, Err}
use Prim.Native.Nat.{ℕ}
use lib.ListN.{length}
use Rattle.refusal.specs.Words.{Told, refused}
use Rattle.refusal.specs.Order.{First}
use Rattle.refusal.proofs.Order.{exactly}
use Rattle.refusal.proofs.Unique.{untold, untold_told}
use Rattle.writer.specs.Message.{text_all}
use Rattle.writer.specs.Writer.{written_in, message_of, checks_of, answer_of, Writes}
use Rattle.writer.specs.declared.Request.{Request}
use Rattle.refusal.specs.declared.Refusal.{Refusal}

abbrev unanswered : Told ℕ → Result ℕ Refusal
unanswered = untold Ok Err

unanswered_answered : (r : Result ℕ Refusal) → unanswered (written_in r) ≡ r
unanswered_answered (Ok n) = refl
unanswered_answered (Err r) = untold_told {A = ℕ} Ok Err r

-- two outcomes of one call are the same
pub unique : (q : Request) (d out : List ℕ) (r₁ r₂ : Result ℕ Refusal) (o₁ o₂ : List ℕ) → Writes q d out r₁ o₁ → Writes q d out r₂ o₂ → (r₁ ≡ r₂) × (o₁ ≡ o₂)
unique q d out r₁ r₂ o₁ o₂ p w =
    (sym (unanswered_answered r₁) ∙ ap unanswered (p.answers ∙ sym w.answers) ∙ unanswered_answered r₂, p.leaves ∙ sym w.leaves)

-- of the two checks, the one that is told is the first that fails
pub refused_exactly : (q : Request) (d : List ℕ) (room : ℕ) (n : ℕ) (values : List ℕ)
    → (answer_of q d room ≡ refused n values) ↔ First (checks_of q d room) n values
unfolding answer_of
refused_exactly q d room n values = exactly (checks_of q d room) (length (text_all (message_of q d))) n values
