-- When unarmoring gives which answer. Assumes nothing.
use Rattle.std.proofs.Common.{Result}
use Rattle.refusal.specs.declared.Refusal.{Refusal}
use mathlib.Core.Path.{◌≡◌, refl, sym, ◌∙◌}
use mathlib.Core.Bool.{Bool, true, false, ◌||◌}
use mathlib.Core.List.{List, [], ◌∷◌}
use Prim.Native.Nat.{ℕ, ◌≤◌, ◌<◌}
use borrow.Author.Tests.{lt-ltb, le-ltb, ltb-false, ne_eqb}
use lib.Dec.{ltb}
use lib.ListN.{length}
use Rattle.armour.specs.Armour.{first_bad, size, unarmored}
use Rattle.refusal.specs.Words.{Told, taken, refused, left}
use Rattle.refusal.proofs.Order.{passed, taken_same}
use Rattle.armour.specs.Spread.{Spreads}
use Rattle.armour.specs.Unarmor.{unarmored_in, bad_fill, checks_of, answer_of, Unarmors}

module _ (s : List ℕ) (fill : ℕ) where
  pub fill-some : fill ≤ 5 → (length s ≡ 0 → ⊥) → bad_fill s fill ≡ false
  unfolding bad_fill
  fill-some h e = simp (le-ltb 5 fill h, ne_eqb (length s) 0 e)

  fill-small : bad_fill s fill ≡ false → fill ≤ 5
  unfolding bad_fill
  fill-small e = ltb-false 5 fill (neither (ltb 5 fill) _ e)
    where
      neither : (t u : Bool) → (t || u) ≡ false → t ≡ false
      neither true u e = e
      neither false u e = refl

  module _ (room : ℕ) where
    pub says-7 : bad_fill s fill ≡ true → answer_of s fill room ≡ refused 7 []
    unfolding answer_of
    says-7 b = rw b

    module _ (b : bad_fill s fill ≡ false) where
      pub says-6 : 384 < length s → answer_of s fill room ≡ refused 6 []
      unfolding answer_of
      says-6 h = rw (b, lt-ltb 384 (length s) h)

      pub says-12 : length s ≤ 384 → room < size (length s) → answer_of s fill room ≡ refused 12 []
      unfolding answer_of
      says-12 h r = rw (b, le-ltb 384 (length s) h, lt-ltb room (size (length s)) r)

      pub says-8 : length s ≤ 384 → size (length s) ≤ room → first_bad s < length s → answer_of s fill room ≡ refused 8 (first_bad s ∷ [])
      unfolding answer_of
      says-8 h r k = rw (b, le-ltb 384 (length s) h, le-ltb room (size (length s)) r, lt-ltb (first_bad s) (length s) k)

      pub says-taken : length s ≤ 384 → size (length s) ≤ room → length s ≤ first_bad s → answer_of s fill room ≡ taken (size (length s))
      unfolding answer_of
      says-taken h r k = rw (b, le-ltb 384 (length s) h, le-ltb room (size (length s)) r, le-ltb (first_bad s) (length s) k)

    -- what was checked of a payload whose bytes are counted
    pub taken_by : (n : ℕ) → taken n ≡ answer_of s fill room → Spreads s fill × ((n ≡ size (length s)) × (size (length s) ≤ room))
    unfolding answer_of
    taken_by n e =
        let p = passed (checks_of s fill room) (size (length s)) n (sym e) in (
          record { filled = fill-small p.0; few = ltb-false 384 (length s) p.1.0; armour = ltb-false (first_bad s) (length s) p.1.1.1.0 },
          (sym (taken_same (checks_of s fill room) (size (length s)) n (sym e)), ltb-false room (size (length s)) p.1.1.0),
        )

  pub answered-by : (out : List ℕ) {r : Result ℕ Refusal} {out' : List ℕ} (t : Told ℕ) → answer_of s fill (length out) ≡ t
      → unarmored_in r ≡ t → out' ≡ left t (unarmored s fill) out → Unarmors s fill out r out'
  answered-by out t e p q = record { answers = p ∙ sym e; leaves = rw e q }
