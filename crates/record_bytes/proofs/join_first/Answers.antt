-- `record_bytes::join_first`: the payload fits, or it is too long. Assumes nothing.
use Prim.Native.Nat.{◌≤◌}
use mathlib.Core.Path.{◌≡◌, refl, ap}
use native.Mathlib.Omega.{arith}
use lib.ListN.{length}
use Rattle.reassembly.specs.Record.{part_in}
use Rattle.reassembly.proofs.Laws.{first_6, first_taken}
use Rattle.record_bytes.proofs.Placed.{joins_by, first-stored}
use borrow.Author.Rules.{rules}
use Rattle.record_bytes.proofs.join_first.Goals as goal

pub returns-then-n-gt384 : goal.returns-then-n-gt384
returns-then-n-gt384 c = λ found.
    joins_by _ _ _ _ _ _ (first_6 found c.args.fragment c.args.payload.now c.requires.1 c.if-n-gt384.true) (ap part_in c.too_long.ensures.0) c.too_long.ensures.1

pub returns : goal.returns
returns c = λ found.
    let few : length c.args.payload.now ≤ 384 = omega (arith, c.if-n-gt384.false) in
    let l : length c.head-first.result ≡ 16 = search rules in
    joins_by _ _ _ _ _ _ (first_taken found c.args.fragment c.args.payload.now c.requires.1 few) refl
    (first-stored c.args.state.now c.args.payload.now c.args.fragment.message_id c.args.fragment.fragment_number _ _ _ _ c.requires.0 few l
    c.head-first.ensures c.put_at.ensures c.put_at-2.ensures c.clear.ensures)
