-- NOTHING IS LOST: the record, the text and the counts after a line are told by what is left; and the promise of a line has one outcome. Assumes nothing.
use mathlib.Core.Path.{◌≡◌, sym, ap, ◌∙◌}
use mathlib.Core.List.{List}
use Prim.Native.Nat.{ℕ}
use Rattle.json_told.specs.Answer.{Left, left_with}
use Rattle.json_told.specs.declared.Kept.{Kept}

pub same_left : (r s : List ℕ) (a b : ℕ) (l m t u : List ℕ) → left_with r a l t ≡ left_with s b m u → (r ≡ s) × (a ≡ b) × (l ≡ m) × (t ≡ u)
same_left r s a b l m t u e =
    (ap (λ (x : Left). x.state) e, ap (λ (x : Left). x.out.at) e, ap (λ (x : Left). x.out.bytes) e, ap (λ (x : Left). x.tally) e)

-- what is kept, from its number and what is left
abbrev the_kept_by : ℕ → Left → Kept
the_kept_by n x = record { number = n; used = x.out.at }

-- what is kept, the record's bytes, the output and the counts
pub same_kept : (j k : Kept) (r s l m t u : List ℕ) → j.number ≡ k.number → left_with r j.used l t ≡ left_with s k.used m u
    → (j ≡ k) × (r ≡ s) × (l ≡ m) × (t ≡ u)
same_kept j k r s l m t u n e =
    let x = same_left r s j.used k.used l m t u e in
    (ap (the_kept_by j.number) e ∙ ap (λ (i : ℕ). the_kept_by i (left_with s k.used m u)) n, x.0, x.2, x.3)

-- `left` is what is promised of a line by its number: `left_of`, or `left_long` where the line is too long
pub unique : (left : ℕ → Left) (n : ℕ) (j k : Kept) (r s l m t u : List ℕ) → left_with r j.used l t ≡ left j.number → j.number ≡ n
    → left_with s k.used m u ≡ left k.number → k.number ≡ n
    → (j ≡ k) × (r ≡ s) × (l ≡ m) × (t ≡ u)
unique left n j k r s l m t u p i q h = let e = i ∙ sym h in same_kept j k r s l m t u e (p ∙ ap left e ∙ sym q)
