-- `summary::put_held` meets its contract. Assumes nothing.
use Rattle.std.proofs.Common.{rules}
use mathlib.Core.Path.{sym}
use mathlib.Core.List.{[], ◌∷◌}
use borrow.Author.Tests.{eq-eqb, ne_eqb}
use Rattle.text_out.specs.Text.{ascii}
use Rattle.text_out.proofs.Laws.{put-nothing, put_then}
use Rattle.summary.specs.Unfinished.{held_text}
use Rattle.summary.proofs.put_held.Goals as goal

pub returns-then-len-eq0 : goal.returns-then-len-eq0
unfolding held_text
returns-then-len-eq0 c = record { same = search rules; is = rw (eq-eqb _ 0 c.if-len-eq0.true) (sym (put-nothing _)) }

pub returns : goal.returns
unfolding held_text
returns c = record {
  same = search rules;
  is = let rest = put_then _ (ascii ", characters: ") _ c.put_bytes-3.ensures.is
      (put_then _ _ (10 ∷ []) c.put_decimal-2.ensures.is c.put_byte.ensures.is) in
      rw (ne_eqb _ 0 c.if-len-eq0.false)
      (put_then _ (ascii "unfinished message: ") _ c.put_bytes.ensures.is
      (put_then _ _ _ c.put_id.ensures.is
      (put_then _ (ascii "lines so far: ") _ c.put_bytes-2.ensures.is
      (put_then _ _ _ c.put_decimal.ensures.is rest))));
}
