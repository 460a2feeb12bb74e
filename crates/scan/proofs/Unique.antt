-- NOTHING IS LOST: a place, a number and an exclusive or are told by what a rule reads from one place on. Assumes nothing.
use mathlib.Core.Path.{◌≡◌, refl, sym, ap, ◌∙◌}
use mathlib.Core.List.{List}
use Prim.Native.Nat.{ℕ}
use Rattle.std.specs.Prelude.{Option, Some, None}
use Rattle.scan.specs.Rule.{Read, on_read}
use Rattle.scan.specs.Answers.{place_in, num_in, sum_in}

abbrev place_by : Read Unit → Option ℕ
place_by result = on_read result (λ _ next. Some next) (λ _. None)

place-back : (at : ℕ) (p : Option ℕ) → place_by (place_in at p) ≡ p
place-back at (Some next) = refl
place-back at None = refl

pub same_place : (at : ℕ) (p q : Option ℕ) → place_in at p ≡ place_in at q → p ≡ q
same_place at p q e = sym (place-back at p) ∙ ap place_by e ∙ place-back at q

abbrev num_by : Read ℕ → Option (ℕ × ℕ)
num_by result = on_read result (λ v next. Some (v, next)) (λ _. None)

num_back : (at : ℕ) (n : Option (ℕ × ℕ)) → num_by (num_in at n) ≡ n
num_back at (Some n) = refl
num_back at None = refl

pub same_num : (at : ℕ) (n m : Option (ℕ × ℕ)) → num_in at n ≡ num_in at m → n ≡ m
same_num at n m e = sym (num_back at n) ∙ ap num_by e ∙ num_back at m

abbrev sum_by : Read ℕ → Option ℕ
sum_by result = on_read result (λ v _. Some v) (λ _. None)

sum_back : (s : List ℕ) (at : ℕ) (x : Option ℕ) → sum_by (sum_in s at x) ≡ x
sum_back s at (Some v) = refl
sum_back s at None = refl

pub same_sum : (s : List ℕ) (at : ℕ) (x y : Option ℕ) → sum_in s at x ≡ sum_in s at y → x ≡ y
same_sum s at x y e = sym (sum_back s at x) ∙ ap sum_by e ∙ sum_back s at y
