-- `record_bytes::join_next`: each way out is one law of the checks. Assumes nothing.
use Prim.Native.Nat.{ℕ, ◌+◌, ◌≤◌}
use mathlib.Core.Path.{◌≡◌, refl, sym, ap, ◌∙◌}
use mathlib.Core.Bool.{Bool, not, not-not}
use mathlib.Core.List.{List}
use native.Mathlib.Omega.{arith}
use lib.ListN.{length, get_or}
use Rattle.std.specs.Prelude.{Option, Some, None, eqb}
use Rattle.std.specs.Option.{option_eq}
use Rattle.reassembly.specs.declared.Fragment.{Fragment}
use Rattle.reassembly.specs.Record.{same_number, part_in}
use Rattle.reassembly.proofs.Laws.{to_4, to_5, to_6, to_taken}
use Rattle.record_bytes.specs.Bytes.{number_by, record_in}
use Rattle.record_bytes.proofs.Placed.{joins_by, kept-is, next-stored}
use borrow.Author.Rules.{rules}
use Rattle.record_bytes.proofs.join_next.Goals as goal

-- the first test's answer, of the record in the bytes
agree : (state : List ℕ) (f : Fragment) {number : Option ℕ} {other : Bool} → number ≡ number_by (get_or state 0 0) (get_or state 1 0)
    → other ≡ not (option_eq eqb number f.message_id) → same_number (record_in state).message_id f.message_id ≡ not other
unfolding record_in
agree state f {number} n o = ap (λ (m : Option ℕ). same_number m f.message_id) (sym n) ∙ go number f.message_id ∙ ap not (sym o)
  where
    go : (a b : Option ℕ) → same_number a b ≡ not (not (option_eq eqb a b))
    go None None = refl
    go None (Some y) = refl
    go (Some x) None = refl
    go (Some x) (Some y) = sym (not-not (eqb x y))

pub returns-then-ne : goal.returns-then-ne
returns-then-ne c =
    let r = record_in c.args.state.now in
    let e = agree c.args.state.now c.args.fragment c.number_by-number.ensures c.ne.ensures ∙ ap not c.if-ne.true in
    joins_by _ _ _ _ _ _ (to_4 r r c.args.fragment c.args.part c.args.payload.now e) refl (kept-is c.args.state.now _ c.requires c.keep.ensures)

pub returns-then-fragment-due : goal.returns-then-fragment-due
unfolding record_in
returns-then-fragment-due c =
    let r = record_in c.args.state.now in
    joins_by _ _ _ _ _ _ (to_5 r r c.args.fragment c.args.part c.args.payload.now (agree c.args.state.now c.args.fragment c.number_by-number.ensures c.ne.ensures ∙ ap not c.if-ne.false) c.if-fragment-due.true) refl
    (kept-is c.args.state.now _ c.requires c.keep-then-fragment-due.ensures)

pub returns-then-n-gt384 : goal.returns-then-n-gt384
unfolding record_in
returns-then-n-gt384 c =
    let r = record_in c.args.state.now in
    joins_by _ _ _ _ _ _ (to_6 r r c.args.fragment c.args.part c.args.payload.now (agree c.args.state.now c.args.fragment c.number_by-number.ensures c.ne.ensures ∙ ap not c.if-ne.false) c.if-fragment-due.false (omega arith)) (ap part_in c.too_long.ensures.0) c.too_long.ensures.1

pub returns-then-n-len : goal.returns-then-n-len
unfolding record_in
returns-then-n-len c =
    let r = record_in c.args.state.now in
    let k : c.length_in-len.result ≡ r.len = c.length_in-len.ensures in
    joins_by _ _ _ _ _ _
    (to_6 r r c.args.fragment c.args.part c.args.payload.now (agree c.args.state.now c.args.fragment c.number_by-number.ensures c.ne.ensures ∙ ap not c.if-ne.false) c.if-fragment-due.false
    (omega (arith, k, c.if-n-len.true, c.if-n-gt384.false)))
    (ap part_in c.too_long-then-n-len.ensures.0) c.too_long-then-n-len.ensures.1

pub returns : goal.returns
unfolding record_in
returns c =
    let r = record_in c.args.state.now in
    let k : c.length_in-len.result ≡ r.len = c.length_in-len.ensures in
    let n : c.number_by-number.result ≡ r.message_id = c.number_by-number.ensures in
    let l : length c.head-first.result ≡ 16 = search rules in
    let fits : c.length_in-len.result + length c.args.payload.now ≤ 384 =
    omega (arith, c.if-n-len.false, c.if-n-gt384.false) in
    joins_by _ _ _ _ _ _ (to_taken r r c.args.fragment c.args.part c.args.payload.now (agree c.args.state.now c.args.fragment c.number_by-number.ensures c.ne.ensures ∙ ap not c.if-ne.false) c.if-fragment-due.false (omega (arith, k, fits))) refl
    (next-stored c.args.state.now c.args.payload.now _ _ _ _ _ _ c.requires n k fits l c.head-first.ensures c.put_at.ensures
    c.put_at-2.ensures)
