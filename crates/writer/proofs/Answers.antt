-- When the writer gives which answer. Assumes nothing.
use mathlib.Core.Path.{◌≡◌, sym, ◌∙◌}
use mathlib.Core.Bool.{true, false}
use mathlib.Core.List.{List, []}
use Rattle.std.specs.Prelude.{Result}
use Prim.Native.Nat.{ℕ, ◌≤◌, ◌<◌}
use borrow.Author.Tests.{lt-ltb, le-ltb}
use lib.ListN.{length}
use Rattle.refusal.specs.Words.{Told, taken, refused, left}
use Rattle.writer.specs.Message.{text_all}
use Rattle.writer.specs.Writer.{written_in, outside, message_of, answer_of, Writes}
use Rattle.writer.specs.declared.Request.{Request}
use Rattle.refusal.specs.declared.Refusal.{Refusal}

module _ (q : Request) (d : List ℕ) where
  module _ (room : ℕ) where
    pub says-13 : outside q d ≡ true → answer_of q d room ≡ refused 13 []
    unfolding answer_of
    says-13 b = rw b

    pub says-12 : outside q d ≡ false → room < length (text_all (message_of q d)) → answer_of q d room ≡ refused 12 []
    unfolding answer_of
    says-12 b h = rw (b, lt-ltb room (length (text_all (message_of q d))) h)

    pub says-taken : outside q d ≡ false → length (text_all (message_of q d)) ≤ room → answer_of q d room ≡ taken (length (text_all (message_of q d)))
    unfolding answer_of
    says-taken b h = rw (b, le-ltb room (length (text_all (message_of q d))) h)

  pub answered-by : (out : List ℕ) {r : Result ℕ Refusal} {out' : List ℕ} (t : Told ℕ) → answer_of q d (length out) ≡ t → written_in r ≡ t
      → out' ≡ left t (text_all (message_of q d)) out → Writes q d out r out'
  answered-by out t e p l = record { answers = p ∙ sym e; leaves = rw e l }
