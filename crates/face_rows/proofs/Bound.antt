-- NOTHING IS LONGER: what a table prints has at most as many bytes as specs/Bound works out from its rows. Assumes nothing.
use Prim.Native.Nat.{ℕ, zero, suc, ◌+◌, ◌*◌, ◌/◌, ◌%◌, ◌^◌, ◌≤◌}
use native.Mathlib.Omega.{arith}
use native.Mathlib.Nat.{le_trans}
use mathlib.Core.Bool.{Bool, true, false, ◌||◌}
use mathlib.Core.Path.{ap}
use mathlib.Core.List.{List, [], ◌∷◌, ◌++◌}
use lib.Dec.{eqb, ltb}
use lib.ListN.{length, get_or, drop, length-append, length-take, length-drop}
use Rattle.refusal.specs.Words.{pick, within}
use Rattle.text_out.specs.Text.{ascii}
use Rattle.text_out.specs.Digits.{decimal_of, hex_of, word_of}
use Rattle.text_out.proofs.Decimals.{one-digit}
use Rattle.text_out.proofs.Lengths.{decimal-most, hex-length}
use Rattle.face_values.specs.Signed.{sign_in, size_in, signed_in}
use Rattle.face_values.specs.Point.{tenths_in, six_digits, nine_digits, fixed, millionths, degrees_in}
use Rattle.face_values.specs.Rate.{patterns, billionths_of, fixed_nine, rate_in}
use Rattle.face_values.specs.Quoted.{code_of, escaped, inside, quoted_in, shown_in}
use Rattle.face_rows.specs.Rows.{Value, nothing, number, signed, tenths, degrees, quoted, hexed, pattern, letter, pair, float, Row, holds}
use Rattle.face_rows.specs.Rows.{text_at, value_text, row_text, printed, printed_from}
use Rattle.face_rows.specs.Bound.{value_bound, bound_of}

-- ---- the forms of a value

sign_most : (n : ℕ) → length (sign_in n) ≤ 1
sign_most n = go (ltb n (2 ^ 63))
  where
    go : (t : Bool) → length {A = ℕ} (pick t [] (45 ∷ [])) ≤ 1
    go true = omega arith
    go false = omega arith

signed-most : (n : ℕ) → length (signed_in n) ≤ 1 + 20
signed-most n = omega (arith, length-append (sign_in n) (decimal_of (size_in n)), sign_most n, decimal-most (size_in n))

tenths-most : (n : ℕ) → length (tenths_in n) ≤ 20 + 1 + 1
tenths-most n =
    let one = ap length (one-digit (n % 10) (omega arith)) in
    omega (arith, length-append (decimal_of (n / 10)) (46 ∷ decimal_of (n % 10)), decimal-most (n / 10), one)

degrees-most : (n : ℕ) → length (degrees_in n) ≤ 1 + 20 + 1 + 6
degrees-most n =
    let m = millionths (size_in n) in
    omega (arith, length-append (sign_in n) (fixed m), sign_most n, length-append (decimal_of (m / 1000000)) (46 ∷ six_digits m), decimal-most (m / 1000000))

rate-most : (n : ℕ) → length (rate_in n) ≤ 20 + 1 + 9
unfolding rate_in
rate-most n = go (ltb n patterns) (billionths_of n)
  where
    go : (t : Bool) (k : ℕ) → length (pick t (fixed_nine k) (ascii "null")) ≤ 20 + 1 + 9
    go true k = omega (arith, length-append (decimal_of (k / 10 ^ 9)) (46 ∷ nine_digits k), decimal-most (k / 10 ^ 9))
    go false k = omega arith

escaped-most : (b : ℕ) → length (escaped b) ≤ 6
unfolding escaped hex_of
escaped-most b = go (eqb b 34 || eqb b 92) (within 32 126 b)
  where
    go : (s t : Bool) → length (pick s (92 ∷ b ∷ []) (pick t (b ∷ []) (code_of b))) ≤ 6
    go true t = omega arith
    go false true = omega arith
    go false false = omega arith

inside-most : (s : List ℕ) → length (inside s) ≤ 6 * length s
unfolding inside
inside-most [] = omega arith
inside-most (b ∷ s) = let h = inside-most s in omega (arith, length-append (escaped b) (inside s), escaped-most b)

quoted-most : (room : ℕ) (s : List ℕ) → length s ≤ room → length (quoted_in s) ≤ 1 + 6 * room + 1
quoted-most room s h = omega (arith, length-append (inside s) (34 ∷ []), inside-most s)

shown-most : (room : ℕ) (s : List ℕ) → length s ≤ room → length (shown_in s) ≤ 1 + 2 * room
unfolding shown_in
shown-most room s h = go (eqb (length s) 0)
  where
    go : (t : Bool) → length (pick t (ascii "-") (hex_of s)) ≤ 1 + 2 * room
    go true = omega arith
    go false = omega (arith, hex-length s)

part-most : (texts : List ℕ) (start size : ℕ) → length (text_at texts start size) ≤ length texts
part-most texts start size = omega (arith, length-take size (drop start texts), length-drop start texts)

module _ (room : ℕ) (numbers texts : List ℕ) (h : length texts ≤ room) where
  -- the text at a place, of the length that stands at another
  text-most : (place start : ℕ) → length (text_at texts start (get_or numbers place 0)) ≤ room
  text-most place start = le_trans (part-most texts start (get_or numbers place 0)) h

  -- a clause for each form
  value-most : (v : Value) → length (value_text numbers texts v) ≤ value_bound room v
  value-most nothing = omega arith
  value-most (number place) = decimal-most (get_or numbers place 0)
  value-most (signed place) = signed-most (get_or numbers place 0)
  value-most (tenths place) = tenths-most (get_or numbers place 0)
  value-most (degrees place) = degrees-most (get_or numbers place 0)
  value-most (quoted place start) = quoted-most room (text_at texts start (get_or numbers place 0)) (text-most place start)
  value-most (hexed place start) = shown-most room (text_at texts start (get_or numbers place 0)) (text-most place start)
  value-most (letter place) = quoted-most 1 (get_or numbers place 0 % 256 ∷ []) (omega arith)
  value-most (pair place) = omega arith
  value-most (float place) = rate-most (get_or numbers place 0)
  value-most (pattern place) = hex-most (get_or numbers place 0 % 2 ^ 32)
    where
      hex-most : (n : ℕ) → length (word_of n) ≤ 8
      hex-most n = omega (arith, hex-length (n / 16777216 % 256 ∷ n / 65536 % 256 ∷ n / 256 % 256 ∷ n % 256 ∷ []))

  -- ---- the rows

  row-most : (r : Row) → length (row_text numbers texts r) ≤ length r.word + value_bound room r.value
  row-most r = omega (arith, length-append r.word (value_text numbers texts r.value), value-most r.value)

  from-most : (k : ℕ) (rows : List Row) → length (printed_from k rows numbers texts) ≤ bound_of room rows
  unfolding printed_from
  from-most k [] = omega arith
  from-most zero (r ∷ rows) = go (holds numbers r.when) (from-most 0 rows) (from-most r.span rows)
    where
      go : (t : Bool) → length (printed_from 0 rows numbers texts) ≤ bound_of room rows → length (printed_from r.span rows numbers texts) ≤ bound_of room rows
          → length (pick t (row_text numbers texts r ++ printed_from 0 rows numbers texts) (printed_from r.span rows numbers texts))
          ≤ length r.word + value_bound room r.value + bound_of room rows
      go true next skipped = omega (arith, length-append (row_text numbers texts r) (printed_from 0 rows numbers texts), row-most r)
      go false next skipped = omega (arith, skipped)
  from-most (suc k) (r ∷ rows) = let next = from-most k rows in omega (arith, next)

  -- all rows of a table
  pub printed-most : (rows : List Row) → length (printed rows numbers texts) ≤ bound_of room rows
  printed-most rows = from-most 0 rows
