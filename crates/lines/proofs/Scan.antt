-- The bytes before the first LF, by the place at which the library's search finds it. Assumes nothing.
use Rattle.std.proofs.Common.{ℕ, suc, ◌+◌, ◌<◌, ◌≡◌, ◌∙◌, refl, ap, Bool, true, false, not, cond, List, [], ◌∷◌, length, take, Some, None, arith}
use Rattle.std.specs.Prelude.{position}
use Rattle.std.specs.List.{position_or_len}
use Rattle.std.proofs.lemmas.List.Quantifiers.{position-Some}
use Rattle.std.proofs.lemmas.List.Sums.{position_or_len_is}
use Rattle.std.proofs.lemmas.Grind.{common_steps}
use lib.Seq.{take_all}
use lib.Dec.{eqb}
use Rattle.refusal.specs.Words.{pick}
use Rattle.lines.specs.Lines.{until_lf}

abbrev is_lf : ℕ → Bool
is_lf x = eqb x 10

until_is : (s : List ℕ) → until_lf s ≡ take (position_or_len is_lf s) s
unfolding until_lf
until_is [] = refl
until_is (x ∷ s) = go (is_lf x) (until_is s)
  where
    go : (b : Bool) → until_lf s ≡ take (position_or_len is_lf s) s
        → pick b [] (x ∷ until_lf s) ≡ take (cond (not b) (1 + position_or_len is_lf s) 0) (x ∷ s)
    go true e = refl
    go false e =
        let one : suc (position_or_len is_lf s) ≡ 1 + position_or_len is_lf s = omega arith in
        ap (λ (t : List ℕ). x ∷ t) e ∙ ap (λ (k : ℕ). take k (x ∷ s)) one

-- an LF at k
pub at_lf : (s : List ℕ) (k : ℕ) → position is_lf s ≡ Some k → (k < length s) × (until_lf s ≡ take k s)
at_lf s k e =
    let h = position-Some is_lf s k 0 e in
    (h.0, until_is s ∙ ap (λ (i : ℕ). take i s) (position_or_len_is is_lf s k 0 (omega (arith, h.0)) h.2 (λ _. h.1)))

-- no LF
pub no_lf : (s : List ℕ) → position is_lf s ≡ None → until_lf s ≡ s
no_lf s e = until_is s ∙ take_all (position_or_len is_lf s) s (grind (arith, common_steps))
