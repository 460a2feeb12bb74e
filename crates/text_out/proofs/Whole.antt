-- Where there is room for all of it, what is put stands whole. Assumes nothing.
use Prim.Native.Nat.{ℕ, ◌+◌, ◌≤◌}
use native.Mathlib.Omega.{arith}
use mathlib.Core.Path.{◌≡◌, ap, sym, ◌∙◌}
use mathlib.Core.List.{List, ◌++◌}
use lib.ListN.{length, take, drop, length-take}
use lib.Seq.{take_at, drop_at, take-append_seam, drop-append_seam, drop-drop}
use Rattle.text_out.specs.Text.{Text, text, put}
use Rattle.text_out.specs.Whole.{Whole}
use Rattle.text_out.proofs.Laws.{put-fits}

module _ (at : ℕ) (bytes s : List ℕ) (h : at + length s ≤ length bytes) where
  front : length (take at bytes) ≡ at
  front = length-take at bytes ∙ omega arith

  pub put_whole : Whole at bytes s (put (text at bytes) s)
  put_whole =
      let rest = drop (at + length s) bytes in
      let e = put-fits at bytes s h in
      let all : (put (text at bytes) s).bytes ≡ take at bytes ++ (s ++ rest) = ap (λ (t : Text). t.bytes) e in
      let from : drop at (put (text at bytes) s).bytes ≡ s ++ rest = ap (drop at) all ∙ drop_at (take at bytes) (s ++ rest) at front in
      record {
        place = ap (λ (t : Text). t.at) e;
        stands = ap (take (length s)) from ∙ take-append_seam s rest;
        before = ap (take at) all ∙ take_at (take at bytes) (s ++ rest) at front;
        after = sym (drop-drop (length s) at (put (text at bytes) s).bytes) ∙ ap (drop (length s)) from ∙ drop-append_seam s rest;
      }
