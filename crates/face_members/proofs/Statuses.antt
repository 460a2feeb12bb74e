-- A status in words by its number; from a number on there are none. Assumes nothing.
use Prim.Native.Nat.{ℕ, suc, ◌≤◌, ◌<◌, min}
use native.Mathlib.Omega.{arith}
use mathlib.Core.Path.{◌≡◌, refl}
use mathlib.Core.Bool.{Bool, true, false}
use mathlib.Core.List.{List}
use lib.Dec.{eqb, leb, ltb}
use borrow.Author.Tests.{leb-true, leb-false, le-ltb, eqb-true, eqb-false}
use Rattle.refusal.specs.Words.{pick}
use Rattle.face_members.specs.Members.{null}
use Rattle.face_members.specs.Words.{status_word}

pub capped : (cap n : ℕ) (f : ℕ → List ℕ) → pick (ltb (min n cap) cap) (f (min n cap)) null ≡ pick (ltb n cap) (f n) null
capped cap n f = go (leb n cap) refl
  where
    go : (b : Bool) → leb n cap ≡ b → pick (ltb (min n cap) cap) (f (min n cap)) null ≡ pick (ltb n cap) (f n) null
    go true e = let z : min n cap ≡ n = omega (arith, leb-true n cap e) in rw z
    go false e =
        let l = leb-false n cap e in
        let z : min n cap ≡ cap = omega arith in
        rw (z, le-ltb cap cap (omega arith), le-ltb n cap (omega arith))

-- three numbers have the same words
pub reserved : (n : ℕ) → 11 ≤ n → n < 14 → status_word n ≡ status_word 11
reserved n l h = go (eqb n 11) refl (eqb n 12) refl
  where
    go : (a : Bool) → eqb n 11 ≡ a → (b : Bool) → eqb n 12 ≡ b → status_word n ≡ status_word 11
    go true e b d = rw (eqb-true n 11 e)
    go false e true d = rw (eqb-true n 12 d)
    go false e false d = let z : n ≡ 13 = omega (arith, eqb-false n 11 e, eqb-false n 12 d) in rw z

-- numbers left out one by one
pub after : (k : ℕ) {n : ℕ} → k ≤ n → (n ≡ k → ⊥) → suc k ≤ n
after k l h = omega arith
