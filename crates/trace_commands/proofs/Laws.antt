-- What a caller has of a word that was read as bytes. Assumes nothing.
use Prim.Native.Nat.{ℕ, ◌≤◌}
use native.Mathlib.Omega.{arith}
use mathlib.Core.Path.{◌≡◌, refl, sym, ap, ◌∙◌}
use mathlib.Core.Bool.{Bool, true, false}
use mathlib.Core.List.{List}
use lib.ListN.{length, take, drop, length-append}
use lib.Seq.{take_at, length-take-le}
use Rattle.refusal.specs.Words.{over}
use Rattle.text_out.specs.Text.{ascii}
use Rattle.lines.specs.Same.{same_as}
use Rattle.trace_commands.specs.Hex.{bytes_of, readable, filled_of, left_of, Fills}
use Rattle.std.specs.Prelude.{Option, Some, None}
use Rattle.lines.proofs.Same.{same_is}
use Rattle.trace_commands.proofs.Readings.{bytes-length}

-- a word that was read is `-`, or readable
module _ (w buffer : List ℕ) (r : Option ℕ) (after : List ℕ) (f : Fills w buffer r after) (n : ℕ) (is : r ≡ Some n) where
  unread : same_as w (ascii "-") ≡ false → readable w (length buffer) ≡ false → ⊥
  unfolding filled_of
  unread d r = let z : ◌≡◌ {A = Option ℕ} (Some n) None = sym is ∙ f.answers ∙ rw (d, r) in let x : ◌≡◌ {A = ℕ} 0 1 = cc in omega arith

  -- the bytes that the answer counts are the word's
  pub filled-bytes : take n after ≡ bytes_of w
  unfolding filled_of left_of bytes_of
  filled-bytes = go (same_as w (ascii "-")) refl (readable w (length buffer)) refl
    where
      go : (p : Bool) → same_as w (ascii "-") ≡ p → (q : Bool) → readable w (length buffer) ≡ q → take n after ≡ bytes_of w
      go true d q r =
          let z : Some n ≡ Some 0 = sym is ∙ f.answers ∙ rw d in
          let e : n ≡ 0 = cc in
          ap (λ (k : ℕ). take k after) e ∙ sym (ap bytes_of (same_is w (ascii "-") d))
      go false d true r =
          let z : Some n ≡ Some (length (bytes_of w)) = sym is ∙ f.answers ∙ rw (d, r, bytes-length w) in
          let e : n ≡ length (bytes_of w) = cc in
          ap (take n) (f.leaves ∙ rw r) ∙ take_at (bytes_of w) (drop (length (bytes_of w)) buffer) n (sym e)
      go false d false r = absurd (unread d r)

  -- they are within the buffer
  pub filled-inside : n ≤ length after
  unfolding filled_of left_of bytes_of
  filled-inside = go (same_as w (ascii "-")) refl (readable w (length buffer)) refl
    where
      go : (p : Bool) → same_as w (ascii "-") ≡ p → (q : Bool) → readable w (length buffer) ≡ q → n ≤ length after
      go true d q r =
          let z : Some n ≡ Some 0 = sym is ∙ f.answers ∙ rw d in
          let e : n ≡ 0 = cc in
          omega (arith, e)
      go false d true r =
          let z : Some n ≡ Some (length (bytes_of w)) = sym is ∙ f.answers ∙ rw (d, r, bytes-length w) in
          let e : n ≡ length (bytes_of w) = cc in
          let l : after ≡ over (bytes_of w) buffer = f.leaves ∙ rw r in
          omega (arith, e, ap length l, length-append (bytes_of w) (drop (length (bytes_of w)) buffer))
      go false d false r = absurd (unread d r)

  pub filled-length : n ≡ length (take n after)
  filled-length = sym (length-take-le n after filled-inside)

  -- and they stand first in the buffer
  pub filled-over : after ≡ over (bytes_of w) buffer
  unfolding filled_of left_of bytes_of
  filled-over = go (readable w (length buffer)) refl (same_as w (ascii "-")) refl
    where
      go : (q : Bool) → readable w (length buffer) ≡ q → (p : Bool) → same_as w (ascii "-") ≡ p → after ≡ over (bytes_of w) buffer
      go true r p d = f.leaves ∙ rw r
      go false r true d = let e : after ≡ buffer = f.leaves ∙ rw r in e ∙ sym (ap (λ (v : List ℕ). over (bytes_of v) buffer) (same_is w (ascii "-") d))
      go false r false d = absurd (unread d r)
