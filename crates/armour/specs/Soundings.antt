-- The cases marked P of document 01's Soundings, as one table: `w` is 119, `W` 87, the backtick 96, `X` 88, `_` 95, `/` 47, `x` 120.
use Rattle.std.specs.Prelude.{List, [], ◌∷◌, ℕ, length}
use Rattle.refusal.specs.Words.{Told, taken, refused, left}
use Rattle.armour.specs.Armour.{unarmored}
use Rattle.armour.specs.Unarmor.{answer_of}

-- a payload, its fill, the answer on paper, and the output after the call, of which four bytes AA were lent
pub record Case : Type 0 where
  pub payload : List ℕ
  pub fill : ℕ
  pub says : Told ℕ
  pub holds : List ℕ

abbrev case : List ℕ → ℕ → Told ℕ → List ℕ → Case
case s fill t out = record { payload = s; fill = fill; says = t; holds = out }

abbrev lent : List ℕ
lent = 0xAA ∷ 0xAA ∷ 0xAA ∷ 0xAA ∷ []

-- the same payload and fill with what the definitions say
abbrev pub run : Case → Case
run c =
    let t = answer_of c.payload c.fill (length lent) in
    case c.payload c.fill t (left t (unarmored c.payload c.fill) lent)

abbrev pub soundings : List Case
soundings =
    case (119 ∷ []) 5 (taken 1) (0x80 ∷ 0xAA ∷ 0xAA ∷ 0xAA ∷ [])
    ∷ case (119 ∷ 119 ∷ []) 0 (taken 2) (0xFF ∷ 0xF0 ∷ 0xAA ∷ 0xAA ∷ [])
    ∷ case (119 ∷ 119 ∷ []) 5 (taken 2) (0xFE ∷ 0x00 ∷ 0xAA ∷ 0xAA ∷ [])
    ∷ case (119 ∷ 119 ∷ 119 ∷ []) 5 (taken 3) (0xFF ∷ 0xF8 ∷ 0x00 ∷ 0xAA ∷ [])
    ∷ case (119 ∷ 119 ∷ 119 ∷ 119 ∷ []) 5 (taken 3) (0xFF ∷ 0xFF ∷ 0xE0 ∷ 0xAA ∷ [])
    ∷ case (87 ∷ []) 0 (taken 1) (0x9C ∷ 0xAA ∷ 0xAA ∷ 0xAA ∷ [])
    ∷ case (96 ∷ []) 0 (taken 1) (0xA0 ∷ 0xAA ∷ 0xAA ∷ 0xAA ∷ [])
    ∷ case (88 ∷ []) 0 (refused 8 (0 ∷ [])) lent
    ∷ case (95 ∷ []) 0 (refused 8 (0 ∷ [])) lent
    ∷ case (47 ∷ []) 0 (refused 8 (0 ∷ [])) lent
    ∷ case (120 ∷ []) 0 (refused 8 (0 ∷ [])) lent
    ∷ case [] 0 (taken 0) lent
    ∷ case [] 1 (refused 7 []) lent
    ∷ []
