-- Rows that the code puts by itself, one after the other: what they say, and that it was put. Assumes nothing.
use Prim.Native.Nat.{ℕ}
use Prim.Native.String.{String}
use mathlib.Core.Path.{◌≡◌, refl, sym, ap, ◌∙◌}
use mathlib.Core.List.{List, ◌++◌}
use lib.Dec.{T, eqb}
use lib.ListN.{length, get_or}
use Rattle.refusal.specs.Words.{pick}
use Rattle.text_out.specs.Text.{Text, text, put, ascii}
use Rattle.text_out.specs.Digits.{decimal_of}
use Rattle.text_out.proofs.Laws.{put_then, put-length}
use Rattle.face_rows.specs.Rows.{Row, always, Value, value_text, printed}
use Rattle.face_rows.proofs.Says.{Says, ◌then◌, whole, row-says, closed, own_says}
use Rattle.face_members.specs.Members.{null, key, words, value_if, member, or_null, unless_null, flag}
use Rattle.face_members.proofs.Members.{words_say, member-says, or_null-says, unless-null-says, flag-says}

-- the rows say s, which was put after x and left y
pub record Shown (numbers texts : List ℕ) (rows : List Row) (x y : Text) : Type 0 where
  pub s : List ℕ
  pub says : Says numbers texts rows s
  pub puts : y ≡ put x s

module _ {numbers texts : List ℕ} {a : List Row} {x y : Text} where
  infixl 65 ◌next◌
  pub ◌next◌ : {b : List Row} {z : Text} → Shown numbers texts a x y → Shown numbers texts b y z → Shown numbers texts (a ++ b) x z
  ◌next◌ p q = record { s = p.s ++ q.s; says = p.says then q.says; puts = put_then x p.s q.s p.puts q.puts }

  pub all_shown : Shown numbers texts a x y → y ≡ put x (printed a numbers texts)
  all_shown p = p.puts ∙ ap (put x) (sym (whole p.says))

-- no byte is put past the end
pub same_room : (a b : ℕ) (l m s : List ℕ) → text a l ≡ put (text b m) s → length l ≡ length m
same_room a b l m s e = ap (λ (t : Text). length t.bytes) e ∙ put-length (text b m) s

module _ (numbers texts : List ℕ) {x y : Text} where
  pub rows-shown : (rows : List Row) → T (closed rows) → y ≡ put x (printed rows numbers texts) → Shown numbers texts rows x y
  rows-shown rows h e = record { s = printed rows numbers texts; says = own_says numbers texts rows h; puts = e }

  pub words-shown : (w : String) → y ≡ put x (ascii w) → Shown numbers texts (words w) x y
  words-shown w e = record { s = ascii w; says = words_say w; puts = e }

  pub value-shown : (word : String) (v : Value) {w : Text} → w ≡ put x (ascii word) → y ≡ put w (value_text numbers texts v)
      → Shown numbers texts (value_if always word v) x y
  value-shown word v e d = record {
    s = ascii word ++ value_text numbers texts v;
    says = row-says always refl (ascii word) v;
    puts = put_then x (ascii word) (value_text numbers texts v) e d;
  }

  -- a member: its key, and its value after it
  module _ (name : String) where
    pub keyed : {w : Text} {rows : List Row} (v : List ℕ) → Says numbers texts rows (key name ++ v) → w ≡ put x (key name) → y ≡ put w v
        → Shown numbers texts rows x y
    keyed v says e d = record { s = key name ++ v; says = says; puts = put_then x (key name) v e d }

    module _ {w : Text} where
      pub member-shown : (v : Value) → w ≡ put x (key name) → y ≡ put w (value_text numbers texts v) → Shown numbers texts (member name v) x y
      member-shown v = keyed (value_text numbers texts v) (member-says name v refl)

      pub or_null-shown : (there : ℕ) (v : Value) → w ≡ put x (key name) → y ≡ put w (pick (eqb (get_or numbers there 0) 1) (value_text numbers texts v) null)
          → Shown numbers texts (or_null name there v) x y
      or_null-shown there v = keyed (pick (eqb (get_or numbers there 0) 1) (value_text numbers texts v) null) (or_null-says name there v refl)

      pub unless-null-shown : (place none : ℕ) → w ≡ put x (key name)
          → y ≡ put w (pick (eqb (get_or numbers place 0) none) null (decimal_of (get_or numbers place 0))) → Shown numbers texts (unless_null name place none) x y
      unless-null-shown place none =
          keyed (pick (eqb (get_or numbers place 0) none) null (decimal_of (get_or numbers place 0))) (unless-null-says name place none refl)

      pub flag-shown : (place : ℕ) → w ≡ put x (key name) → y ≡ put w (pick (eqb (get_or numbers place 0) 1) (ascii "true") (ascii "false"))
          → Shown numbers texts (flag name place) x y
      flag-shown place = keyed (pick (eqb (get_or numbers place 0) 1) (ascii "true") (ascii "false")) (flag-says name place refl)
