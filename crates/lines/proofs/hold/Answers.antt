-- `lines::hold` meets its contract: with each byte, what is held and the bytes left come to the same. Assumes nothing.
use Rattle.std.proofs.Common.{◌≡◌, ◌≤◌, ◌+◌, ◌∙◌, [], ◌∷◌, ◌++◌, ap, length, drop, get_or, List, ℕ, arith}
use mathlib.Core.List.{append_assoc, append-nil}
use lib.ListN.{drop_of_length-le}
use lib.Seq.{drop-cons}
use native.Mathlib.Numerals.{add-one}
use Rattle.lines.specs.Held.{kept_of, held_of}
use Rattle.lines.proofs.Keeping.{kept-few, kept-length, kept_more, held_kept}
use Rattle.lines.proofs.hold.Goals as goal

pub loop-b-preserved : goal.loop-b-preserved
loop-b-preserved c =
    let room : c.args.most ≤ length c.loop-b.line = omega (arith, c.requires.room) in
    let h = held_of c.args.most c.loop-b.n c.loop-b.line ++ get_or c.args.bytes.now c.loop-b.b-index 0 ∷ [] in
    let rest : List ℕ = drop (c.loop-b.b-index + 1) c.args.bytes.now in
    let split : drop c.loop-b.b-index c.args.bytes.now ≡ get_or c.args.bytes.now c.loop-b.b-index 0 ∷ rest =
    drop-cons c.args.bytes.now c.loop-b.b-index 0 (omega arith) ∙ rw add-one in
    let same : h ++ rest ≡ held_of c.args.most c.loop-b.n c.loop-b.line ++ drop c.loop-b.b-index c.args.bytes.now = rw (split, append_assoc) in (
      kept_more c.args.most h c.loop-b.line room _ _ c.push-n.ensures rest ∙ ap (λ (l : List ℕ). kept_of c.args.most l c.loop-b.line) same
          ∙ c.loop-b.invariant.0,
      kept-length c.args.most h c.loop-b.line room _ _ c.push-n.ensures ∙ c.loop-b.invariant.1,
      kept-few c.args.most h c.loop-b.line room _ _ c.push-n.ensures,
    )

pub returns : goal.returns
returns c =
    let e : held_of c.args.most c.loop-b.n c.loop-b.line ++ drop c.loop-b.b-index c.args.bytes.now ≡ held_of c.args.most c.loop-b.n c.loop-b.line =
    rw (drop_of_length-le c.args.bytes.now c.loop-b-test.false, append-nil) in
    held_kept c.args.most c.loop-b.n c.loop-b.line (omega (arith, c.requires.room)) c.loop-b.invariant.2
    ∙ (rw e at c.loop-b.invariant.0)
