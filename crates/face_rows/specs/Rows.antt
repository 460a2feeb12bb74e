-- A face of an answer: a table of rows over the answer's layout, its numbers and its bytes of text. A row is a word and a value after it, put where a
-- test of one number holds; rows after it may depend on its test too. A place beyond the layout holds 0.
use Rattle.std.specs.Prelude.{ℕ, zero, suc, ◌%◌, ◌^◌, Bool, true, not, List, [], ◌∷◌, ◌++◌, eqb, leb, ltb, length, get_or, take, drop}
use Rattle.refusal.specs.Words.{pick}
use Rattle.text_out.specs.Digits.{decimal_of, word_of}
use Rattle.face_values.specs.Signed.{signed_in}
use Rattle.face_values.specs.Point.{tenths_in, degrees_in}
use Rattle.face_values.specs.Quoted.{quoted_in, shown_in, pair_in}
use Rattle.face_values.specs.Rate.{rate_in}

-- a test of the number at a place against a number
pub data Test : Type 0 where
  always : Test
  is : ℕ → ℕ → Test
  is_not : ℕ → ℕ → Test
  least : ℕ → ℕ → Test
  below : ℕ → ℕ → Test

-- a value: of the number at a place, or of the text whose length is at a place and whose bytes start at another; `letter` is a string of one byte,
-- `pair` a byte as two hex digits, `float` a rate of turn from the bit pattern of its number
pub data Value : Type 0 where
  nothing : Value
  number : ℕ → Value
  signed : ℕ → Value
  tenths : ℕ → Value
  degrees : ℕ → Value
  quoted : ℕ → ℕ → Value
  hexed : ℕ → ℕ → Value
  pattern : ℕ → Value
  letter : ℕ → Value
  pair : ℕ → Value
  float : ℕ → Value

pub record Row : Type 0 where
  pub when : Test
  pub span : ℕ
  pub word : List ℕ
  pub value : Value

abbrev pub row : Test → List ℕ → Value → Row
row when word value = record { when = when; span = 0; word = word; value = value }

-- rows that are put where a test holds
abbrev pub group : Test → List Row → List Row
group when rows = record { when = when; span = length rows; word = []; value = nothing } ∷ rows

abbrev pub holds : List ℕ → Test → Bool
holds numbers always = true
holds numbers (is place n) = eqb (get_or numbers place 0) n
holds numbers (is_not place n) = not (eqb (get_or numbers place 0) n)
holds numbers (least place n) = leb n (get_or numbers place 0)
holds numbers (below place n) = ltb (get_or numbers place 0) n

abbrev pub text_at : List ℕ → ℕ → ℕ → List ℕ
text_at texts start size = take size (drop start texts)

abbrev pub value_text : List ℕ → List ℕ → Value → List ℕ
value_text numbers texts nothing = []
value_text numbers texts (number place) = decimal_of (get_or numbers place 0)
value_text numbers texts (signed place) = signed_in (get_or numbers place 0)
value_text numbers texts (tenths place) = tenths_in (get_or numbers place 0)
value_text numbers texts (degrees place) = degrees_in (get_or numbers place 0)
value_text numbers texts (quoted place start) = quoted_in (text_at texts start (get_or numbers place 0))
value_text numbers texts (hexed place start) = shown_in (text_at texts start (get_or numbers place 0))
value_text numbers texts (pattern place) = word_of (get_or numbers place 0 % 2 ^ 32)
value_text numbers texts (letter place) = quoted_in (get_or numbers place 0 % 256 ∷ [])
value_text numbers texts (pair place) = pair_in (get_or numbers place 0)
value_text numbers texts (float place) = rate_in (get_or numbers place 0)

abbrev pub row_text : List ℕ → List ℕ → Row → List ℕ
row_text numbers texts r = r.word ++ value_text numbers texts r.value

-- the rows one after the other, but for the first k: where a test does not hold, its row and those that depend on it are left out
unfoldable pub printed_from : ℕ → List Row → List ℕ → List ℕ → List ℕ
printed_from k [] numbers texts = []
printed_from zero (r ∷ rows) numbers texts =
    pick (holds numbers r.when) (row_text numbers texts r ++ printed_from 0 rows numbers texts) (printed_from r.span rows numbers texts)
printed_from (suc k) (r ∷ rows) numbers texts = printed_from k rows numbers texts

abbrev pub printed : List Row → List ℕ → List ℕ → List ℕ
printed rows numbers texts = printed_from 0 rows numbers texts
