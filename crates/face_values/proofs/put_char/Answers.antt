-- `face_values::put_char` meets its contract. Assumes nothing.
use Rattle.std.proofs.Common.{rules}
use borrow.Author.Tests.{ne_eqb, le-leb}
use Rattle.refusal.specs.Words.{within}
use Rattle.face_values.specs.Quoted.{escaped}
use Rattle.face_values.proofs.Escaped.{escaped_low, escaped_high}
use Rattle.face_values.proofs.put_char.Goals as goal

pub returns-then-b-eq34 : goal.returns-then-b-eq34
unfolding escaped
returns-then-b-eq34 c = record { same = search rules; is = rw c.if-b-eq34.true c.put_bytes.ensures.is }

pub returns-then-b-eq92 : goal.returns-then-b-eq92
unfolding escaped
returns-then-b-eq92 c = record { same = search rules; is = rw c.if-b-eq92.true c.put_bytes-then-b-eq92.ensures.is }

pub returns-then-b-lt32 : goal.returns-then-b-lt32
returns-then-b-lt32 c = record { same = search rules; is = rw (escaped_low c.args.b c.if-b-eq34.false c.if-b-eq92.false c.if-b-lt32.true) c.put_code.ensures.is }

pub returns-then-b-gt126 : goal.returns-then-b-gt126
returns-then-b-gt126 c = record { same = search rules; is = rw (escaped_high c.args.b c.if-b-eq34.false c.if-b-eq92.false c.if-b-gt126.true) c.put_code-then-b-gt126.ensures.is }

pub returns : goal.returns
unfolding escaped within
returns c = record {
  same = search rules;
  is = rw (ne_eqb c.args.b 34 c.if-b-eq34.false, ne_eqb c.args.b 92 c.if-b-eq92.false, le-leb 32 c.args.b c.if-b-lt32.false, le-leb c.args.b 126 c.if-b-gt126.false)
      c.put_byte.ensures.is;
}
