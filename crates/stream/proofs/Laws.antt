-- What the block gives, from what the collector was called with. Assumes nothing.
use Prim.Native.Nat.{ℕ, min}
use mathlib.Core.Path.{◌≡◌, sym, ap, ◌∙◌}
use mathlib.Core.Bool.{Bool}
use mathlib.Core.List.{List}
use lib.ListN.{length, take, length-take}
use Rattle.lines.specs.Collect.{Collects, collect_of, next_of}
use Rattle.text_out.proofs.Laws.{take_min}
use Rattle.stream.specs.declared.Input.{Input}
use Rattle.stream.specs.declared.Next.{Next}
use Rattle.stream.specs.Next.{next_by, Given, taken_with, in_block}

-- what a call of the collector gives, in the first n bytes of a block
abbrev the_by_call : ℕ → Collects → Given
the_by_call n c =
    taken_with (record { input = record { held = c.len; from = next_of c.event n; filled = n }; next = next_by c.event }) c.line

module _ (m : ℕ) (strip : Bool) (input : Input) (block buf : List ℕ) (n : ℕ) (c : Collects) where
  pub by_call : n ≡ min input.filled (length block) → c ≡ collect_of m strip input.held (take n block) input.from buf
      → the_by_call n c ≡ in_block m strip input block buf
  by_call e h =
      ap (the_by_call n) (h ∙ ap (λ (b : List ℕ). collect_of m strip input.held b input.from buf) part)
      ∙ ap (λ (k : ℕ). the_by_call k (collect_of m strip input.held (take input.filled block) input.from buf))
      (e ∙ sym (length-take input.filled block))
    where
      part : take n block ≡ take input.filled block
      part = ap (λ (i : ℕ). take i block) e ∙ take_min input.filled block

  -- with the two answers of the code's own helpers
  pub given : {from : ℕ} {next : Next} → n ≡ min input.filled (length block) → c ≡ collect_of m strip input.held (take n block) input.from buf
      → from ≡ next_of c.event n → next ≡ next_by c.event
      → taken_with (record { input = record { held = c.len; from = from; filled = n }; next = next }) c.line
      ≡ in_block m strip input block buf
  given e h p q = rw (p, q) (by_call e h)
