-- Nothing is lost on paper: two refusals that tell the same are the same. Assumes nothing.
use mathlib.Core.Path.{◌≡◌, refl, sym, ap, ◌∙◌}
use mathlib.Core.List.{List}
use Prim.Native.Nat.{ℕ}
use lib.Dec.{eqb}
use lib.ListN.{length, get_or}
use Rattle.refusal.specs.Words.{pick, Told, taken, refused}
use Rattle.refusal.specs.Refusal.{row_of, told}
use Rattle.refusal.specs.Values.{Returned, count_by}
use Rattle.refusal.specs.declared.Refusal.{Refusal}
use Rattle.refusal.specs.declared.Values.{Values}
use Rattle.refusal.specs.declared.Refusal.TheVariants.{LineTooLong, Line, Checksum, MessageNumber, FragmentNumber, PayloadTooLong, Fill}
use Rattle.refusal.specs.declared.Refusal.TheVariants.{Armour, Short, OtherType, UnknownType, Room, Request}

-- the refusal of a number and its values
abbrev pub the_by_number : ℕ → List ℕ → Refusal
the_by_number n values =
    pick (eqb n 1) LineTooLong
    (pick (eqb n 2) Line
    (pick (eqb n 3) (Checksum (get_or values 0 0) (get_or values 1 0))
    (pick (eqb n 4) MessageNumber
    (pick (eqb n 5) FragmentNumber
    (pick (eqb n 6) PayloadTooLong
    (pick (eqb n 7) Fill
    (pick (eqb n 8) (Armour (get_or values 0 0))
    (pick (eqb n 9) Short
    (pick (eqb n 10) (OtherType (get_or values 0 0))
    (pick (eqb n 11) (UnknownType (get_or values 0 0))
    (pick (eqb n 12) Room Request)))))))))))

read_back : (r : Refusal) → the_by_number (row_of r).number (row_of r).values ≡ r
read_back LineTooLong = refl
read_back Line = refl
read_back (Checksum expected found) = refl
read_back MessageNumber = refl
read_back FragmentNumber = refl
read_back PayloadTooLong = refl
read_back Fill = refl
read_back (Armour offset) = refl
read_back Short = refl
read_back (OtherType n) = refl
read_back (UnknownType n) = refl
read_back Room = refl
read_back Request = refl

-- what is told, as an answer of any enum that has a case for a result and one for a refusal
abbrev pub untold : {A B : Type 0} → (A → B) → (Refusal → B) → Told A → B
untold result refusal (taken a) = result a
untold result refusal (refused n values) = refusal (the_by_number n values)

-- a refusal told and read back is that refusal
pub untold_told : {A B : Type 0} (result : A → B) (refusal : Refusal → B) (r : Refusal) → untold result refusal (told r) ≡ refusal r
untold_told result refusal r = ap refusal (read_back r)

-- two refusals that tell the same are the same
pub same_refusal : (A : Type 0) (a b : Refusal) → told {A = A} a ≡ told b → a ≡ b
same_refusal A a b e = sym (read_back a) ∙ ap (untold (λ (x : A). Request) (λ (r : Refusal). r)) e ∙ read_back b

-- the values of a refusal as the code gives them: one outcome, with 0 where there is no first or no second
abbrev returned_by : List ℕ → Values
returned_by values = record { count = length values; first = get_or values 0 0; second = get_or values 1 0 }

returned_by_lem : (values : List ℕ) (v : Values) → Returned values v → v ≡ returned_by values
returned_by_lem values v h =
    let e : ◌≡◌ {A = Values} (record { count = v.count; first = v.first; second = v.second }) (returned_by values) = rw (h.count, h.first, h.second) in
    e

pub returned_unique : (values : List ℕ) (v w : Values) → Returned values v → Returned values w → v ≡ w
returned_unique values v w p q = returned_by_lem values v p ∙ sym (returned_by_lem values w q)

-- how many values a refusal returns is told by its number
pub counted : (r : Refusal) → count_by (row_of r).number ≡ length (row_of r).values
counted LineTooLong = refl
counted Line = refl
counted (Checksum expected found) = refl
counted MessageNumber = refl
counted FragmentNumber = refl
counted PayloadTooLong = refl
counted Fill = refl
counted (Armour offset) = refl
counted Short = refl
counted (OtherType n) = refl
counted (UnknownType n) = refl
counted Room = refl
counted Request = refl
