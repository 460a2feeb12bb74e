-- What is done so far, and what one more call took. Assumes nothing.
use Rattle.std.proofs.Common.{ℕ, ◌+◌, ◌≤◌, List, length, take, sym, subst, rules}
use Rattle.std.proofs.lemmas.List.{take_rest}
use Rattle.std.proofs.Math.Seq.{take-add}
use Rattle.std.proofs.KnownBytes.{Appends-trans}
use Rattle.std.specs.Io.KnownBytes.{Appends}
use Rattle.stream.proofs.write_all.Goals as goal
use Rattle.stream.proofs.write_all.Goals.{in-Ok, in-Err+else-not-is_for_again}

pub loop-preserved : goal.loop-preserved
loop-preserved g c =
    let all : List ℕ = c.args.bytes.now in
    let i : ℕ = c.loop.done in
    elim c.match-write_some.branch [
      | in-Ok w ↦
          let n : ℕ = w.in-Ok.put in
          let within : i + n ≤ length all = search rules in
          let more = subst (λ l. Appends (g.W.Write.contents c.loop.to) (g.W.Write.contents c.write_some.new.to) (take n l)) (take_rest all i) w.in-Ok.ensures.bytes in
          subst (λ k. (k ≤ length all) × Appends (g.W.Write.contents c.args.to.now) (g.W.Write.contents c.write_some.new.to) (take k all)) (sym w.done-is)
          (within, subst (Appends (g.W.Write.contents c.args.to.now) (g.W.Write.contents c.write_some.new.to)) (sym (take-add i n all)) (Appends-trans _ _ _ _ _ c.loop.invariant.1 more))
      | in-Err+else-not-is_for_again w ↦
          subst (λ k. (k ≤ length all) × Appends (g.W.Write.contents c.args.to.now) (g.W.Write.contents c.write_some.new.to) (take k all)) (sym w.done-is)
          (c.loop.invariant.0, search rules)
    ]
