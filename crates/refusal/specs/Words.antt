-- The words that every definition shares.
use Rattle.std.specs.Prelude.{Bool, true, false, ◌&&◌, List, [], ◌∷◌, ◌++◌, ℕ, leb, eqb, length, drop}

-- x where b is true, else y
abbrev pub pick : {A : Type 0} → Bool → A → A → A
pick true x y = x
pick false x y = y

-- b lies between lo and hi, both counted
unfoldable pub within : ℕ → ℕ → ℕ → Bool
within lo hi b = leb lo b && leb b hi

-- there is nothing in it
abbrev pub is_empty : List ℕ → Bool
is_empty s = eqb (length s) 0

-- what is answered on paper: a result, or a refusal by document 01's number with the values also returned
pub data Told (A : Type 0) : Type 0 where
  taken : A → Told A
  refused : ℕ → List ℕ → Told A

-- the number that an answer on paper bears; 0 where nothing is refused
abbrev pub number_in : {A : Type 0} → Told A → ℕ
number_in (taken a) = 0
number_in (refused n values) = n

-- what stands in an answer where the call is taken, and where it is refused
abbrev pub on_taken : {A B : Type 0} → Told A → B → B → B
on_taken (taken a) x other = x
on_taken (refused n values) x other = other

-- one of document 01's checks: whether it fails, and the number and values that are then told
pub record Check : Type 0 where
  pub fails : Bool
  pub number : ℕ
  pub values : List ℕ

abbrev pub check : Bool → ℕ → List ℕ → Check
check fails number values = record { fails = fails; number = number; values = values }

-- checks taken in order: "A refusal is given exactly when its condition holds .. and none earlier does" (document 01, 'Refusal numbers')
abbrev pub checked : {A : Type 0} → List Check → Told A → Told A
checked [] t = t
checked (c ∷ cs) t = pick c.fails (refused c.number c.values) (checked cs t)

-- a lent buffer with the bytes s standing first: "All further bytes stay"
abbrev pub over : List ℕ → List ℕ → List ℕ
over s buffer = s ++ drop (length s) buffer

-- a lent buffer after a call that fills it with s: "Refused calls write nothing to output buffers"
abbrev pub left : {A : Type 0} → Told A → List ℕ → List ℕ → List ℕ
left (taken a) s buffer = over s buffer
left (refused n values) s buffer = buffer
