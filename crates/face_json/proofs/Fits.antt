-- NOTHING IS CUT: a line of JSON has at most 8,192 bytes, so that where there is as much room it stands whole. Assumes nothing.
use Prim.Native.Nat.{ℕ, ◌+◌, ◌≤◌, ◌<◌}
use native.Mathlib.Omega.{arith}
use native.Mathlib.Nat.{le_trans}
use mathlib.Core.Bool.{Bool, true, false}
use mathlib.Core.Path.{◌≡◌, refl}
use mathlib.Core.List.{List}
use borrow.Author.Tests.{leb-true}
use lib.Dec.{leb, eqb}
use lib.ListN.{length, get_or}
use Rattle.refusal.specs.Words.{pick}
use Rattle.text_out.specs.Text.{text, put}
use Rattle.text_out.specs.Whole.{Whole}
use Rattle.text_out.proofs.Whole.{put_whole}
use Rattle.face_rows.specs.Rows.{Row, printed}
use Rattle.layout_numbers.specs.Places.{kind, part}
use Rattle.face_rows.specs.Bound.{bound_of}
use Rattle.face_rows.proofs.Bound.{printed-most}
use Rattle.face_json.specs.Tables.{nothing_table, position_table, craft_table, static_table, asked_table}
use Rattle.face_json.specs.Refused.{refused_table}
use Rattle.face_json.specs.Line.{table_of, message_line, refused_line}

-- an answer's texts have 256 bytes at most, and a line then has
abbrev pub texts_most : ℕ
texts_most = 256

abbrev pub line_most : ℕ
line_most = 8192

-- a table whose rows come to no more
abbrev Small : List Row → Type 0
Small rows = leb (bound_of texts_most rows) line_most ≡ true

-- each table is, as its rows are worked out
small : (k p : ℕ) → Small (table_of k p)
small k p = go (eqb k 1) (eqb k 2) (eqb p 1) (eqb k 3)
  where
    go : (a b c d : Bool) → Small (pick a position_table (pick b (pick c craft_table static_table) (pick d asked_table nothing_table)))
    go true b c d = refl
    go false true true d = refl
    go false true false d = refl
    go false false c true = refl
    go false false c false = refl

refused-small : Small refused_table
refused-small = refl

module _ (numbers texts : List ℕ) (h : length texts ≤ texts_most) where
  small-most : (rows : List Row) → Small rows → length (printed rows numbers texts) ≤ line_most
  small-most rows e = le_trans (printed-most texts_most numbers texts h rows) (leb-true _ _ e)

  pub message-most : length (message_line numbers texts) ≤ line_most
  unfolding message_line
  message-most = small-most (table_of (get_or numbers kind 0) (get_or numbers part 0)) (small (get_or numbers kind 0) (get_or numbers part 0))

  pub refused-most : length (refused_line numbers texts) ≤ line_most
  unfolding refused_line
  refused-most = small-most refused_table refused-small

-- with that much room such a line stands whole
module _ (s : List ℕ) (h : length s ≤ line_most) where
  pub json_whole : (at : ℕ) (out : List ℕ) → at + line_most ≤ length out → Whole at out s (put (text at out) s)
  json_whole at out room = put_whole at out s (omega arith)

  -- the program's output buffer has 65,536 bytes, and fewer than 49,152 are in use before a line is answered (stream::is_full)
  pub turn_whole : (at : ℕ) (out : List ℕ) → at < 49152 → 65536 ≤ length out → Whole at out s (put (text at out) s)
  turn_whole at out used room = json_whole at out (omega arith)
