-- `record_bytes::keep` meets its contract. Assumes nothing.
use mathlib.Core.Path.{◌≡◌, sym, ◌∙◌}
use native.Mathlib.Omega.{arith}
use lib.ListN.{length}
use lib.Seq.{length-take-le}
use borrow.Author.Tests.{le-ltb}
use Rattle.record_bytes.proofs.Laws.{head_in, kept_by}
use borrow.Author.Rules.{rules}
use Rattle.record_bytes.proofs.keep.Goals as goal

pub slice_bounds-copy_from_slice-end-2 : goal.slice_bounds-copy_from_slice-end-2
slice_bounds-copy_from_slice-end-2 c = omega (arith, length-take-le 16 c.args.state.now (omega (arith, c.if-state-lt400.false)))

pub copy_from_slice-requires : goal.copy_from_slice-requires
copy_from_slice-requires c =
    let l : length c.head-first.result ≡ 16 = search rules in
    length-take-le 16 c.args.state.now (omega (arith, c.if-state-lt400.false)) ∙ sym l

pub returns : goal.returns
returns c =
    let l : length c.head-first.result ≡ 16 = search rules in
    let e = c.head-first.ensures ∙ head_in c.args.state.now _ c.number_by-number.ensures _ c.length_in-len.ensures in
    rw (le-ltb (length c.args.state.now) 400 c.if-state-lt400.false)
    (kept_by c.head-first.result c.args.state.now _ c.if-state-lt400.false l e c.copy_from_slice.ensures.after)
