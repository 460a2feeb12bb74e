-- `lines::collect_to` meets its contract. Assumes nothing.
use Rattle.std.proofs.Common.{◌∙◌, ap, sym, ◌++◌, length, take, arith, rules}
use lib.Seq.{length-take-le}
use Rattle.lines.specs.Held.{held_of}
use Rattle.lines.proofs.Keeping.{kept-length, kept-few}
use Rattle.lines.proofs.Scan.{at_lf, no_lf}
use Rattle.lines.proofs.Ways.{to_room, to_line, to_held}
use Rattle.lines.proofs.collect_to.Goals as goal

pub returns-then-line-m : goal.returns-then-line-m
returns-then-line-m c = to_room c.args.most c.args.strip c.args.state.len c.args.block.now c.args.from c.args.line.now c.if-line-m.true

pub ended-requires : goal.ended-requires
ended-requires c =
    let h = held_of c.args.most c.min-len.result c.args.line.now ++ take c.in-Some.n c.rest_of-rest.result.now in
    record {
      small = search rules;
      room = rw (kept-length c.args.most h c.args.line.now c.if-line-m.false _ _ c.hold-held.ensures) c.if-line-m.false;
      few = kept-few c.args.most h c.args.line.now c.if-line-m.false _ _ c.hold-held.ensures;
    }

pub returns-in-Some : goal.returns-in-Some
returns-in-Some c =
    let rest = c.rest_of-rest.result.now in
    let lf = at_lf rest c.in-Some.n (sym c.lf_in.ensures ∙ c.in-Some.is) in
    let long = length-take-le c.in-Some.n rest (omega (arith, lf.0)) in
    to_line c.args.most c.args.strip c.args.state.len c.args.block.now c.args.from c.args.line.now c.if-line-m.false c.min-len.result c.min-len.ensures
    (take c.in-Some.n rest) (rw (sym c.rest_of-rest.ensures) lf.1) c.hold-held.result c.hold-held.new.line c.hold-held.ensures
    (rw (long, sym c.rest_of-rest.ensures) lf.0) c.ended.result (rw long c.ended.ensures)

pub returns-in-None : goal.returns-in-None
returns-in-None c =
    let rest = c.rest_of-rest.result.now in
    to_held c.args.most c.args.strip c.args.state.len c.args.block.now c.args.from c.args.line.now c.if-line-m.false c.min-len.result c.min-len.ensures
    rest (rw (sym c.rest_of-rest.ensures) (no_lf rest (sym c.lf_in.ensures ∙ c.in-None.is))) c.hold.result c.hold.new.line c.hold.ensures
    (omega (arith, ap length c.rest_of-rest.ensures))
