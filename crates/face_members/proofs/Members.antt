-- What each word of specs/Members says, over any layout, whatever rows follow. Assumes nothing.
use Prim.Native.Nat.{ℕ}
use Prim.Native.String.{String}
use mathlib.Core.Path.{◌≡◌, refl, ap, ◌∙◌}
use mathlib.Core.Bool.{Bool, true, false, not}
use mathlib.Core.List.{List, ◌++◌, append-nil}
use lib.Dec.{eqb, leb, ltb}
use lib.ListN.{get_or}
use borrow.Author.Tests.{leb-true, leb-false, lt-ltb, le-ltb}
use Rattle.refusal.specs.Words.{pick}
use Rattle.text_out.specs.Text.{ascii}
use Rattle.text_out.specs.Digits.{decimal_of}
use Rattle.face_rows.specs.Rows.{Test, always, is, is_not, least, below, Value, nothing, number, holds, value_text}
use Rattle.face_rows.proofs.Says.{Says, said, row-says, either_says}
use Rattle.face_members.specs.Members.{null, words, key, member, member_if, or_null, unless_null, least_or_null, flag}

-- ---- tests
twice : (b : Bool) → b ≡ not (not b)
twice true = refl
twice false = refl

-- a number is below n, or at least n
below-not : (n x : ℕ) → ltb x n ≡ not (leb n x)
below-not n x = go (leb n x) refl
  where
    go : (b : Bool) → leb n x ≡ b → ltb x n ≡ not b
    go true e = le-ltb x n (leb-true n x e)
    go false e = lt-ltb x n (leb-false n x e)

-- a member of either value
one_of : (name : String) (b : Bool) (s t : List ℕ) → pick b (key name ++ s) (key name ++ t) ≡ key name ++ pick b s t
one_of name true s t = refl
one_of name false s t = refl

other-of : (name : String) (b : Bool) (s t : List ℕ) → pick (not b) (key name ++ s) (key name ++ t) ≡ key name ++ pick b t s
other-of name true s t = refl
other-of name false s t = refl

module _ {numbers texts : List ℕ} where
  -- ---- words
  pub words_say : (w : String) → Says numbers texts (words w) (ascii w)
  words_say w = said (append-nil (ascii w)) (row-says always refl (ascii w) nothing)

  -- ---- members
  module _ (name : String) where
    pub member-says : (v : Value) {s : List ℕ} → value_text numbers texts v ≡ s → Says numbers texts (member name v) (key name ++ s)
    member-says v e = said (ap (λ (l : List ℕ). key name ++ l) e) (row-says always refl (key name) v)

    pub member_if_says : (t : Test) (v : Value) {s : List ℕ} → holds numbers t ≡ true → value_text numbers texts v ≡ s
        → Says numbers texts (member_if t name v) (key name ++ s)
    member_if_says t v h e = said (ap (λ (l : List ℕ). key name ++ l) e) (row-says t h (key name) v)

    module _ {s : List ℕ} where
      -- a value or null, by what stands at a place
      pub or_null-says : (there : ℕ) (v : Value) → pick (eqb (get_or numbers there 0) 1) (value_text numbers texts v) null ≡ s
          → Says numbers texts (or_null name there v) (key name ++ s)
      or_null-says there v e =
          let b = eqb (get_or numbers there 0) 1 in
          said (one_of name b (value_text numbers texts v) null ∙ ap (λ (l : List ℕ). key name ++ l) e)
          (either_says (is there 1) (is_not there 1) (key name) (key name ++ null) v b refl refl)

      pub unless-null-says : (place none : ℕ) → pick (eqb (get_or numbers place 0) none) null (decimal_of (get_or numbers place 0)) ≡ s
          → Says numbers texts (unless_null name place none) (key name ++ s)
      unless-null-says place none e =
          let b = eqb (get_or numbers place 0) none in
          said (other-of name b (decimal_of (get_or numbers place 0)) null ∙ ap (λ (l : List ℕ). key name ++ l) e)
          (either_says (is_not place none) (is place none) (key name) (key name ++ null) (number place) (not b) refl (twice b))

      pub least_or_null-says : (place n : ℕ) (v : Value) → pick (leb n (get_or numbers place 0)) (value_text numbers texts v) null ≡ s
          → Says numbers texts (least_or_null name place n v) (key name ++ s)
      least_or_null-says place n v e =
          let x = get_or numbers place 0 in
          said (one_of name (leb n x) (value_text numbers texts v) null ∙ ap (λ (l : List ℕ). key name ++ l) e)
          (either_says (least place n) (below place n) (key name) (key name ++ null) v (leb n x) refl (below-not n x))

      -- true or false
      pub flag-says : (place : ℕ) → pick (eqb (get_or numbers place 0) 1) (ascii "true") (ascii "false") ≡ s
          → Says numbers texts (flag name place) (key name ++ s)
      flag-says place e =
          let b = eqb (get_or numbers place 0) 1 in
          said
          (ap (λ (l : List ℕ). pick b l (key name ++ ascii "false")) (append-nil (key name ++ ascii "true"))
          ∙ one_of name b (ascii "true") (ascii "false")
          ∙ ap (λ (l : List ℕ). key name ++ l) e)
          (either_says (is place 1) (is_not place 1) (key name ++ ascii "true") (key name ++ ascii "false") nothing b refl refl)
