-- Laws of text that is put, for callers. Assumes nothing.
use mathlib.Core.Bool.{Bool, true, false}
use Prim.Native.Nat.{ℕ, suc, ◌+◌, ◌≤◌, min}
use native.Mathlib.Omega.{arith}
use native.Mathlib.Numerals.{add-one}
use mathlib.Core.Path.{◌≡◌, refl, sym, ap, ◌∙◌}
use mathlib.Core.List.{List, [], ◌∷◌, ◌++◌, append_assoc}
use lib.ListN.{length, take, drop, set, length-set, take-append-drop}
use lib.Seq.{take_all, drop-set-lt, take-suc-set}
use lib.Dec.{ltb, leb}
use borrow.Author.Tests.{lt-ltb, leb-true, leb-false}
use Rattle.refusal.specs.Words.{pick}
use Rattle.text_out.specs.Text.{Text, text, put1, put}

-- PIECES: s and then t after it are s ++ t
pub put-put : (x : Text) (s t : List ℕ) → put (put x s) t ≡ put x (s ++ t)
unfolding put
put-put x [] t = refl
put-put x (a ∷ s) t = put-put (put1 x a) s t

-- a piece after what was put: how a caller joins its calls
pub put_then : (x : Text) {y z : Text} (s t : List ℕ) → y ≡ put x s → z ≡ put y t → z ≡ put x (s ++ t)
put_then x s t e f = f ∙ ap (λ (w : Text). put w t) e ∙ put-put x s t

-- nothing put changes nothing
pub put-nothing : (x : Text) → put x [] ≡ x
unfolding put
put-nothing x = refl

put1-length : (x : Text) (b : ℕ) → length (put1 x b).bytes ≡ length x.bytes
unfolding put1
put1-length x b = go (ltb x.at (length x.bytes))
  where
    go : (q : Bool) → length (pick q (text (x.at + 1) (set x.bytes x.at b)) x).bytes ≡ length x.bytes
    go true = length-set x.bytes x.at b
    go false = refl

-- no byte is put past the end
pub put-length : (x : Text) (s : List ℕ) → length (put x s).bytes ≡ length x.bytes
unfolding put
put-length x [] = refl
put-length x (b ∷ s) = put-length (put1 x b) s ∙ put1-length x b

-- WHAT FITS: with room for all of s, it stands at the place, the other bytes stay, and the place moves on by its length
pub put-fits : (at : ℕ) (bytes s : List ℕ) → at + length s ≤ length bytes
    → put (text at bytes) s ≡ text (at + length s) (take at bytes ++ (s ++ drop (at + length s) bytes))
unfolding put put1
put-fits at bytes [] h = let z : at + 0 ≡ at = omega arith in rw (z, take-append-drop at bytes)
put-fits at bytes (x ∷ s) h =
    let l : length (set bytes at x) ≡ length bytes = length-set bytes at x in
    let e : at + 1 + length s ≡ at + suc (length s) = omega arith in
    let a : take (at + 1) (set bytes at x) ≡ take at bytes ++ x ∷ [] = rw (add-one at) (take-suc-set bytes at x (omega arith)) in
    let b : drop (at + 1 + length s) (set bytes at x) ≡ drop (at + suc (length s)) bytes =
    drop-set-lt (at + 1 + length s) bytes at x (omega arith) ∙ ap (λ (i : ℕ). drop i bytes) e in
    rw (lt-ltb at (length bytes) (omega arith))
    (put-fits (at + 1) (set bytes at x) s (omega arith) ∙ rw (a, b, e, append_assoc (take at bytes) (x ∷ []) (s ++ drop (at + suc (length s)) bytes)))

-- what `up_to` counts
module _ (n : ℕ) (s : List ℕ) where
  pub take_min : take (min n (length s)) s ≡ take n s
  take_min = go (leb n (length s)) refl
    where
      go : (b : Bool) → leb n (length s) ≡ b → take (min n (length s)) s ≡ take n s
      go true e = let z : min n (length s) ≡ n = omega (arith, leb-true n (length s) e) in rw z
      go false e = take_all (min n (length s)) s (omega (arith, leb-false n (length s) e)) ∙ sym (take_all n s (omega (arith, leb-false n (length s) e)))
