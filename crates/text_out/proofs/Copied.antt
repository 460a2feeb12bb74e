-- Bytes copied to a place where they fit are put there. Assumes nothing.
use mathlib.Core.Path.{◌≡◌, sym}
use mathlib.Core.List.{List}
use Prim.Native.Nat.{ℕ, ◌+◌, ◌-◌, ◌≤◌}
use native.Mathlib.Omega.{arith}
use lib.ListN.{length}
use lib.Seq.{drop-drop}
use borrow.Rule.Slice.PartMut.{put_mid}
use Rattle.text_out.specs.Text.{text, put}
use Rattle.text_out.proofs.Laws.{put-fits}

pub copied_put : (at : ℕ) (out held : List ℕ) → at + length held ≤ length out → (part : List ℕ) → part ≡ held
    → text (at + length held) (put_mid at (at + length held - at) out part) ≡ put (text at out) held
copied_put at out held h part q =
    let all : at + length held - at ≡ length held = omega arith in
    rw (q, all, drop-drop (length held) at out) (sym (put-fits at out held h))
