-- Lent bytes, one by one. Assumes nothing.
use Prim.Native.Nat.{ℕ, ◌+◌, ◌≤◌, ◌<◌}
use native.Mathlib.Numerals.{add-one}
use mathlib.Core.Path.{◌≡◌}
use mathlib.Core.Bool.{true, false}
use mathlib.Core.List.{List}
use lib.ListN.{length, get_or, drop, drop_of_length-le}
use lib.Seq.{drop-cons}
use borrow.Author.Tests.{eq-eqb, ne_eqb}
use Rattle.trace_show.specs.Shown.{untouched_in}

module _ (s : List ℕ) (i : ℕ) where
  pub untouched_end : length s ≤ i → true ≡ untouched_in (drop i s)
  unfolding untouched_in
  untouched_end l = rw (drop_of_length-le s l)

  pub untouched_next : i < length s → get_or s i 0 ≡ 170 → untouched_in (drop (i + 1) s) ≡ untouched_in (drop i s)
  unfolding untouched_in
  untouched_next here e = rw (drop-cons s i 0 here, eq-eqb (get_or s i 0) 170 e, add-one i)

  pub touched : i < length s → (get_or s i 0 ≡ 170 → ⊥) → false ≡ untouched_in (drop i s)
  unfolding untouched_in
  touched here d = rw (drop-cons s i 0 here, ne_eqb (get_or s i 0) 170 d)
