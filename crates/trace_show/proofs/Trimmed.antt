-- The zeros at the end of bytes, one by one. Assumes nothing.
use Prim.Native.Nat.{ℕ, suc, ◌+◌, ◌-◌, ◌≤◌, ◌<◌}
use native.Mathlib.Omega.{arith}
use mathlib.Core.Path.{◌≡◌, refl, sym, ap, ◌∙◌}
use mathlib.Core.List.{List, [], ◌∷◌, ◌++◌}
use lib.ListN.{length, get_or, take, length-append}
use lib.Seq.{take-suc, take-length}
use borrow.Author.Tests.{ne_eqb}
use Rattle.trace_show.specs.Record.{trimmed}

trim_zero : (s : List ℕ) → trimmed (s ++ 0 ∷ []) ≡ trimmed s
unfolding trimmed
trim_zero [] = refl
trim_zero (y ∷ s) = rw (trim_zero s)

trim_other : (s : List ℕ) (x : ℕ) → (x ≡ 0 → ⊥) → trimmed (s ++ x ∷ []) ≡ s ++ x ∷ []
unfolding trimmed
trim_other [] x d = rw (ne_eqb x 0 d)
trim_other (y ∷ s) x d =
    let l : length (s ++ x ∷ []) ≡ length s + 1 = length-append s (x ∷ []) in
    rw (trim_other s x d, ne_eqb (length (s ++ x ∷ [])) 0 (λ e. omega arith))

-- bytes and the last of them
module _ (s : List ℕ) (some : 1 ≤ length s) where
  at_last : s ≡ take (length s - 1) s ++ get_or s (length s - 1) 0 ∷ []
  at_last =
      let e : length s ≡ suc (length s - 1) = omega arith in
      sym (take-length s) ∙ ap (λ (k : ℕ). take k s) e ∙ take-suc s (length s - 1) 0 (omega arith)

  pub trim_on : get_or s (length s - 1) 0 ≡ 0 → trimmed (take (length s - 1) s) ≡ trimmed s
  trim_on z =
      sym (trim_zero (take (length s - 1) s)) ∙ ap (λ (x : ℕ). trimmed (take (length s - 1) s ++ x ∷ [])) (sym z) ∙ ap trimmed (sym at_last)

  pub trim_stops : (get_or s (length s - 1) 0 ≡ 0 → ⊥) → s ≡ trimmed s
  trim_stops d = at_last ∙ sym (trim_other (take (length s - 1) s) (get_or s (length s - 1) 0) d) ∙ ap trimmed (sym at_last)

-- no bytes
pub trim_none : (s : List ℕ) → length s < 1 → s ≡ trimmed s
unfolding trimmed
trim_none [] h = refl
trim_none (x ∷ s) h = absurd (omega arith)
