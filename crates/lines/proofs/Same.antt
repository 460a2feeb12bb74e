-- What is left of two strings is the same if the whole is. Assumes nothing.
use Prim.Native.Nat.{ℕ}
use native.Mathlib.Omega.{arith}
use mathlib.Core.Path.{◌≡◌, refl, sym, ap, ◌∙◌}
use mathlib.Core.Bool.{Bool, true, false, ◌&&◌}
use mathlib.Core.List.{List, [], ◌∷◌}
use lib.Dec.{eqb}
use borrow.Author.Tests.{eqb-true}
use Rattle.std.specs.Str.{bytes_eq}
use Rattle.lines.specs.Same.{same_as}

pub both : (p q : Bool) → p && q ≡ true → (p ≡ true) × (q ≡ true)
both true q e = (refl, e)
both false q e = (e, let z : false ≡ true = e in let x : ◌≡◌ {A = ℕ} 0 1 = cc in absurd (omega arith))

-- two strings, byte by byte
pub same_is : (s t : List ℕ) → same_as s t ≡ true → s ≡ t
unfolding same_as
same_is [] [] e = refl
same_is [] (y ∷ t) e = let x : ◌≡◌ {A = ℕ} 0 1 = cc in absurd (omega arith)
same_is (x ∷ s) [] e = let x : ◌≡◌ {A = ℕ} 0 1 = cc in absurd (omega arith)
same_is (x ∷ s) (y ∷ t) e = let b = both (eqb x y) (same_as s t) e in rw (eqb-true x y b.0, same_is s t b.1)

-- the library's `==` of two slices of bytes says the same
pub same_bytes : (s t : List ℕ) → bytes_eq s t ≡ same_as s t
unfolding same_as
same_bytes [] [] = refl
same_bytes [] (y ∷ t) = refl
same_bytes (x ∷ s) [] = refl
same_bytes (x ∷ s) (y ∷ t) = ap (λ (b : Bool). eqb x y && b) (same_bytes s t)

pub equal_says : (s t u : List ℕ) (r : Bool) → r ≡ bytes_eq s t → t ≡ u → same_as s u ≡ r
equal_says s t u r e same = sym (e ∙ ap (bytes_eq s) same ∙ same_bytes s u)
