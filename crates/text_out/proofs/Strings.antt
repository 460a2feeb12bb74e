-- The loops over a string, as bytes and as hex: what is put so far and what is left are the whole. Assumes nothing.
use Prim.Native.Nat.{ℕ, ◌+◌, ◌/◌, ◌%◌, ◌≤◌, ◌<◌}
use native.Mathlib.Numerals.{add-one}
use mathlib.Core.Path.{◌≡◌, ap, ◌∙◌}
use mathlib.Core.List.{List, [], ◌∷◌}
use lib.ListN.{length, get_or, drop, drop_of_length-le}
use lib.Seq.{drop-cons}
use Rattle.text_out.specs.Text.{Text, put}
use Rattle.text_out.specs.Digits.{glyph, hex_of}
use Rattle.text_out.proofs.Laws.{put-put}

pub bytes-end : (x : Text) (s : List ℕ) (i : ℕ) → length s ≤ i → put x (drop i s) ≡ x
unfolding put
bytes-end x s i h = rw (drop_of_length-le s h)

pub hex-end : (x : Text) (s : List ℕ) (i : ℕ) → length s ≤ i → put x (hex_of (drop i s)) ≡ x
unfolding put hex_of
hex-end x s i h = rw (drop_of_length-le s h)

module _ (x y z : Text) (s : List ℕ) (i : ℕ) (here : i < length s) where
  pub bytes_step : y ≡ put x (get_or s i 0 ∷ []) → put x (drop i s) ≡ z → put y (drop (i + 1) s) ≡ z
  bytes_step e inv =
      ap (λ (t : Text). put t (drop (i + 1) s)) e ∙ put-put x (get_or s i 0 ∷ []) (drop (i + 1) s)
      ∙ ap (put x) (rw (drop-cons s i 0 here, add-one i)) ∙ inv

  pub hex_step : (w : Text) (d e : ℕ) → d ≡ glyph (get_or s i 0 / 16) → y ≡ put x (d ∷ []) → e ≡ glyph (get_or s i 0 % 16) → w ≡ put y (e ∷ [])
      → put x (hex_of (drop i s)) ≡ z → put w (hex_of (drop (i + 1) s)) ≡ z
  unfolding hex_of
  hex_step w d e d-is y-is e-is w-is inv =
      let g : w ≡ put x (d ∷ e ∷ []) = w-is ∙ ap (λ (t : Text). put t (e ∷ [])) y-is ∙ put-put x (d ∷ []) (e ∷ []) in
      let r : d ∷ e ∷ hex_of (drop (i + 1) s) ≡ hex_of (drop i s) = rw (d-is, e-is, drop-cons s i 0 here, add-one i) in
      ap (λ (t : Text). put t (hex_of (drop (i + 1) s))) g ∙ put-put x (d ∷ e ∷ []) (hex_of (drop (i + 1) s)) ∙ ap (put x) r ∙ inv
