-- What is put first in a buffer that has room for it. Assumes nothing.
use mathlib.Core.Path.{◌≡◌, sym, ap, ◌∙◌}
use mathlib.Core.List.{List}
use Prim.Native.Nat.{ℕ, ◌+◌, ◌≤◌}
use native.Mathlib.Nat.{zero-add}
use native.Mathlib.Omega.{arith}
use lib.ListN.{length, take, length-take}
use lib.Seq.{take-append_seam}
use Rattle.refusal.specs.Words.{over}
use Rattle.text_out.specs.Text.{Text, text, put}
use Rattle.text_out.proofs.Laws.{put-fits}

module _ (s buffer : List ℕ) (r : ℕ) (after : List ℕ) (e : text r after ≡ put (text 0 buffer) s) (room : length s ≤ length buffer) where
  placed : text r after ≡ text (length s) (over s buffer)
  placed =
      let z : 0 + length s ≡ length s = zero-add (length s) in
      e ∙ rw z at (put-fits 0 buffer s (omega arith))

  pub told-length : r ≡ length s
  told-length = ap (λ (t : Text). t.at) placed

  pub stands-first : after ≡ over s buffer
  stands-first = ap (λ (t : Text). t.bytes) placed

  pub front : take r after ≡ s
  front = rw (told-length, stands-first) (take-append_seam s _)

  pub front_length : r ≡ length (take r after)
  front_length = told-length ∙ sym (ap length front)

  pub front_inside : r ≤ length after
  front_inside = omega (arith, front_length, length-take r after)
