-- What the rows of a table say, whatever rows follow. Assumes nothing.
use Prim.Native.Nat.{ℕ, zero, suc, ◌≤◌}
use native.Mathlib.Omega.{arith}
use mathlib.Core.Path.{◌≡◌, refl, sym, ap, ◌∙◌, subst}
use mathlib.Core.Bool.{Bool, true, false, not, ◌&&◌}
use mathlib.Core.List.{List, [], ◌∷◌, ◌++◌, append-nil, append_assoc}
use lib.Dec.{T, leb, leb→le}
use lib.ListN.{length}
use Rattle.refusal.specs.Words.{pick}
use Rattle.face_rows.specs.Rows.{Test, Value, nothing, Row, row, group, holds, value_text, row_text, printed, printed_from}

-- the rows print s, and then those that follow
pub record Says (numbers texts : List ℕ) (rows : List Row) (s : List ℕ) : Type 0 where
  pub first : (rest : List Row) → printed_from 0 (rows ++ rest) numbers texts ≡ s ++ printed_from 0 rest numbers texts

module _ {numbers texts : List ℕ} {a : List Row} {s : List ℕ} where
  infixl 65 ◌then◌
  pub ◌then◌ : {b : List Row} {t : List ℕ} → Says numbers texts a s → Says numbers texts b t → Says numbers texts (a ++ b) (s ++ t)
  ◌then◌ {b} {t} p q = record {
    first = λ rest.
        ap (λ (l : List Row). printed_from 0 l numbers texts) (append_assoc a b rest)
        ∙ p.first (b ++ rest)
        ∙ ap (λ (l : List ℕ). s ++ l) (q.first rest)
        ∙ sym (append_assoc s t (printed_from 0 rest numbers texts));
  }

  -- with nothing after them
  pub whole : Says numbers texts a s → printed a numbers texts ≡ s
  unfolding printed_from
  whole p = ap (λ (l : List Row). printed l numbers texts) (sym (append-nil a)) ∙ p.first [] ∙ append-nil s

  pub said : {t : List ℕ} → s ≡ t → Says numbers texts a s → Says numbers texts a t
  said e p = subst (Says numbers texts a) e p

module _ {numbers texts : List ℕ} {a : List Row} {s : List ℕ} where
  -- rows whose last ones say two things
  pub with_both : {b : List Row} (t u : List ℕ) → Says numbers texts a s → Says numbers texts b (t ++ u) → Says numbers texts (a ++ b) (s ++ t ++ u)
  with_both t u p q = said (sym (append_assoc s t u)) (p then q)

skipped : (numbers texts : List ℕ) (rows rest : List Row) → printed_from (length rows) (rows ++ rest) numbers texts ≡ printed_from 0 rest numbers texts
unfolding printed_from
skipped numbers texts [] rest = refl
skipped numbers texts (r ∷ rows) rest = skipped numbers texts rows rest

module _ {numbers texts : List ℕ} where
  pub none_says : Says numbers texts [] []
  none_says = record { first = λ rest. refl }

  -- one row, and rows that depend on a test: where it holds, and where not
  module _ (t : Test) where
    module _ (e : holds numbers t ≡ true) where
      pub row-says : (word : List ℕ) (v : Value) → Says numbers texts (row t word v ∷ []) (word ++ value_text numbers texts v)
      unfolding printed_from
      row-says word v = record { first = λ rest. rw e }

      pub group-says : {rows : List Row} {s : List ℕ} → Says numbers texts rows s → Says numbers texts (group t rows) s
      unfolding printed_from
      group-says p = record { first = λ rest. rw e (p.first rest) }

    module _ (e : holds numbers t ≡ false) where
      pub row_silent : (word : List ℕ) (v : Value) → Says numbers texts (row t word v ∷ []) []
      unfolding printed_from
      row_silent word v = record { first = λ rest. rw e }

      pub group_silent : (rows : List Row) → Says numbers texts (group t rows) []
      unfolding printed_from
      group_silent rows = record { first = λ rest. rw e (skipped numbers texts rows rest) }

  -- two rows, of which one is put
  pub either_says : (this that : Test) (word other : List ℕ) (v : Value) (b : Bool) → holds numbers this ≡ b → holds numbers that ≡ not b
      → Says numbers texts (row this word v ∷ row that other nothing ∷ []) (pick b (word ++ value_text numbers texts v) other)
  either_says this that word other v true e d =
      said (append-nil (word ++ value_text numbers texts v)) (row-says this e word v then row_silent that d other nothing)
  either_says this that word other v false e d = said (append-nil other) (row_silent this e word v then row-says that d other nothing)

-- ---- rows whose groups end within them
pub both : (a b : Bool) → T (a && b) → T a × T b
both true b h = (tt, h)
both false b h = absurd h

abbrev pub closed : List Row → Bool
closed [] = true
closed (r ∷ rows) = leb r.span (length rows) && closed rows

module _ (numbers texts : List ℕ) where
  followed : (k : ℕ) (rows rest : List Row) → T (closed rows) → k ≤ length rows
      → printed_from k (rows ++ rest) numbers texts ≡ printed_from k rows numbers texts ++ printed_from 0 rest numbers texts
  unfolding printed_from
  followed zero [] rest h l = refl
  followed (suc k) [] rest h l = absurd (omega arith)
  followed zero (r ∷ rows) rest h l =
      let a = both (leb r.span (length rows)) (closed rows) h in
      let span = leb→le r.span (length rows) a.0 in
      go (holds numbers r.when) (followed 0 rows rest a.1 (omega arith)) (followed r.span rows rest a.1 span)
    where
      go : (b : Bool) → printed_from 0 (rows ++ rest) numbers texts ≡ printed_from 0 rows numbers texts ++ printed_from 0 rest numbers texts
          → printed_from r.span (rows ++ rest) numbers texts ≡ printed_from r.span rows numbers texts ++ printed_from 0 rest numbers texts
          → pick b (row_text numbers texts r ++ printed_from 0 (rows ++ rest) numbers texts) (printed_from r.span (rows ++ rest) numbers texts)
          ≡ pick b (row_text numbers texts r ++ printed_from 0 rows numbers texts) (printed_from r.span rows numbers texts) ++ printed_from 0 rest numbers texts
      go true e d = ap (λ (s : List ℕ). row_text numbers texts r ++ s) e ∙ sym (append_assoc (row_text numbers texts r) _ _)
      go false e d = d
  followed (suc k) (r ∷ rows) rest h l = followed k rows rest (both (leb r.span (length rows)) (closed rows) h).1 (omega arith)

  -- they say what they print
  pub own_says : (rows : List Row) → T (closed rows) → Says numbers texts rows (printed rows numbers texts)
  own_says rows h = record { first = λ rest. followed 0 rows rest h (omega arith) }
