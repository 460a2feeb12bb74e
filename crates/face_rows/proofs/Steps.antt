-- The rows of a table, one after the other: what is put so far and what is left are the whole. Assumes nothing.
use Prim.Native.Nat.{ℕ, zero, suc, ◌+◌, ◌-◌, ◌≤◌, ◌<◌}
use native.Mathlib.Omega.{arith}
use native.Mathlib.Numerals.{add-one}
use mathlib.Core.Bool.{true, false}
use mathlib.Core.Path.{◌≡◌, refl, sym, ap, ◌∙◌}
use mathlib.Core.List.{List, [], ◌∷◌}
use lib.ListN.{length, get_or, drop, drop_of_length-le}
use lib.Seq.{drop-cons}
use Rattle.text_out.specs.Text.{Text, put}
use Rattle.text_out.proofs.Laws.{put-put}
use Rattle.face_rows.specs.declared.Row.{Row}
use Rattle.face_rows.specs.declared.Row.TheVariants.{Group}
use Rattle.face_rows.specs.declared.Test.TheVariants.{Always}
use Rattle.face_rows.specs.Rows.{holds, row_text, printed_from}
use Rattle.face_rows.specs.Code.{row_in, rows_in}

module _ (numbers texts : List ℕ) where
  -- what the rows print, but for the first k
  abbrev shown : ℕ → List Row → List ℕ
  shown k rows = printed_from k (rows_in rows) numbers texts

  none_shown : (k : ℕ) → shown k [] ≡ []
  unfolding printed_from rows_in
  none_shown zero = refl
  none_shown (suc k) = refl

  module _ (x : Text) (rows : List Row) (i k : ℕ) where
    pub rows_end : length rows ≤ i → put x (shown k (drop i rows)) ≡ x
    unfolding put
    rows_end h = rw (drop_of_length-le rows h, none_shown k)

    module _ {z : Text} (here : i < length rows) (inv : put x (shown k (drop i rows)) ≡ z) where
      pub row_skipped : 0 < k → put x (shown (k - 1) (drop (i + 1) rows)) ≡ z
      unfolding printed_from rows_in
      row_skipped h = go k h inv
        where
          go : (k : ℕ) → 0 < k → put x (shown k (drop i rows)) ≡ z → put x (shown (k - 1) (drop (i + 1) rows)) ≡ z
          go zero h e = absurd (omega arith)
          go (suc k) h e =
              let n : suc k - 1 ≡ k = omega arith in
              rw (n, add-one i) (ap (put x) (ap (shown (suc k)) (sym (drop-cons rows i (Group Always 0) here))) ∙ e)

      module _ (none : k ≤ 0) (d : Row) {r : Row} (is : get_or rows i d ≡ r) where
        row_here : put x (shown 0 (r ∷ drop (i + 1) rows)) ≡ z
        row_here =
            let n : k ≡ 0 = omega arith in
            let e : drop i rows ≡ r ∷ drop (i + 1) rows = rw (add-one i) (drop-cons rows i d here ∙ ap (λ (q : Row). q ∷ drop (suc i) rows) is) in
            ap (λ (l : List Row). put x (shown 0 l)) (sym e) ∙ ap (λ (m : ℕ). put x (shown m (drop i rows))) (sym n) ∙ inv

        pub row_shown : {y : Text} → holds numbers (row_in r).when ≡ true → y ≡ put x (row_text numbers texts (row_in r)) → put y (shown 0 (drop (i + 1) rows)) ≡ z
        unfolding printed_from rows_in
        row_shown h e =
            ap (λ (t : Text). put t (shown 0 (drop (i + 1) rows))) e
            ∙ put-put x (row_text numbers texts (row_in r)) (shown 0 (drop (i + 1) rows))
            ∙ ap (put x) (rw h) ∙ row_here

        pub row_hidden : holds numbers (row_in r).when ≡ false → put x (shown (row_in r).span (drop (i + 1) rows)) ≡ z
        unfolding printed_from rows_in
        row_hidden h = ap (put x) (rw h) ∙ row_here
