-- How the line that is held ends. Assumes nothing.
use Prim.Native.Nat.{ℕ, ◌+◌, ◌-◌, ◌≤◌, ◌<◌}
use native.Mathlib.Omega.{arith}
use native.Mathlib.Decide.{ℕ_discrete}
use mathlib.Core.Path.{◌≡◌, sym, ap, ◌∙◌}
use mathlib.Core.Bool.{Bool, true, false}
use mathlib.Core.List.{List, [], ◌∷◌, ◌++◌}
use lib.ListN.{length, get_or, take}
use lib.Seq.{length-take-le, get_or_at, get_or-take, get_or-append-add}
use lib.Dec.{eqb}
use borrow.Author.Tests.{eq-eqb, ne_eqb}
use Rattle.lines.specs.Lines.{ends_in_cr, line_len}
use Rattle.lines.specs.Held.{held_of}
use Rattle.lines.proofs.Keeping.{held_length, held_short, held_return}

held_last : (m n : ℕ) (buf : List ℕ) → n ≤ m + 2 → n ≡ m + 2 → n - 1 ≡ length (take m buf) + 1 → get_or (held_of m n buf) (n - 1) 0 ≡ 0
unfolding held_of
held_last m n buf few e z =
    get_or-take n (take m buf ++ 13 ∷ 0 ∷ []) (n - 1) 0 (omega arith)
    ∙ ap (λ (i : ℕ). get_or (take m buf ++ 13 ∷ 0 ∷ []) i 0) z ∙ get_or-append-add (take m buf) (13 ∷ 0 ∷ []) 1 0

module _ (m n : ℕ) (buf : List ℕ) (room : m ≤ length buf) where
  pub cr_none : n ≡ 0 → ends_in_cr (held_of m n buf) ≡ false
  unfolding ends_in_cr held_of
  cr_none e = rw e

  pub cr-within : 0 < n → n ≤ m → ends_in_cr (held_of m n buf) ≡ eqb (get_or buf (n - 1) 0) 13
  unfolding ends_in_cr
  cr-within z l = rw (held_length m n buf room (omega arith), held_short m n buf room l, get_or-take n buf (n - 1) 0 (omega arith))

  pub cr_beyond : m < n → n ≤ m + 2 → ends_in_cr (held_of m n buf) ≡ eqb n (m + 1)
  unfolding ends_in_cr
  cr_beyond l few = go (ℕ_discrete n (m + 1))
    where
      full : length (take m buf) ≡ m
      full = length-take-le m buf room

      go : Dec (n ≡ m + 1) → eqb (get_or (held_of m n buf) (length (held_of m n buf) - 1) 0) 13 ≡ eqb n (m + 1)
      go (yes e) =
          let z : n - 1 ≡ m = omega arith in
          let b : get_or (held_of m n buf) (n - 1) 0 ≡ 13 =
          ap (λ (t : List ℕ). get_or t (n - 1) 0) (held_return m n buf room e) ∙ ap (λ (i : ℕ). get_or (take m buf ++ 13 ∷ []) i 0) z
          ∙ get_or_at (take m buf) 13 [] 0 m full in
          rw (held_length m n buf room few, eq-eqb n (m + 1) e, b)
      go (no d) =
          let z : n - 1 ≡ length (take m buf) + 1 = omega (arith, full) in
          rw (held_length m n buf room few, ne_eqb n (m + 1) d, held_last m n buf few (omega arith) z)

  pub cr-some : ends_in_cr (held_of m n buf) ≡ true → 0 < n
  cr-some e = go (ℕ_discrete n 0)
    where
      go : Dec (n ≡ 0) → 0 < n
      go (yes z) = let f : true ≡ false = sym e ∙ cr_none z in let w : ◌≡◌ {A = ℕ} 0 1 = cc in omega arith
      go (no d) = omega arith

  pub len-cr : (strip : Bool) → n ≤ m + 2 → strip ≡ true → ends_in_cr (held_of m n buf) ≡ true → n - 1 ≡ line_len strip (held_of m n buf)
  unfolding line_len
  len-cr strip few s e = rw (s, e, held_length m n buf room few)

  pub len_no_cr : (strip : Bool) → n ≤ m + 2 → ends_in_cr (held_of m n buf) ≡ false → n ≡ line_len strip (held_of m n buf)
  unfolding line_len
  len_no_cr false few e = sym (held_length m n buf room few)
  len_no_cr true few e = rw (e, held_length m n buf room few)

  pub len-kept : (strip : Bool) → n ≤ m + 2 → strip ≡ false → n ≡ line_len strip (held_of m n buf)
  unfolding line_len
  len-kept strip few s = rw (s, held_length m n buf room few)
