-- `write` meets its contract: each way out is one law of the answer (proofs/Answers). Assumes nothing.
use Rattle.std.proofs.Common.{rules}
use mathlib.Core.Path.{◌≡◌, refl, sym, ap, ◌∙◌}
use mathlib.Core.List.{[]}
use Prim.Native.Nat.{◌≤◌}
use native.Mathlib.Omega.{arith}
use lib.ListN.{length}
use Rattle.refusal.specs.Words.{taken, refused}
use Rattle.text_out.specs.Text.{Text, text, put}
use Rattle.text_out.specs.Output.{stands}
use Rattle.writer.specs.Message.{text_all}
use Rattle.writer.specs.Writer.{message_of}
use Rattle.writer.proofs.Sendable.{count_range}
use Rattle.writer.proofs.Lengths.{lines_small, length_found}
use Rattle.writer.proofs.Placed.{told-length, stands-first}
use Rattle.writer.proofs.Answers.{says-13, says-12, says-taken, answered-by}
use Rattle.writer.proofs.write.Goals as goal

pub returns-then-is_outside : goal.returns-then-is_outside
returns-then-is_outside c = answered-by _ _ _ (refused 13 []) (says-13 _ _ _ (sym c.is_outside.ensures ∙ c.if-is_outside.true)) refl refl

pub lines_in-lines-requires : goal.lines_in-lines-requires
lines_in-lines-requires c = (count_range _ _ (sym c.is_outside.ensures ∙ c.if-is_outside.false)).1

pub overflow_add-chars : goal.overflow_add-chars
overflow_add-chars c = omega (arith, (count_range _ _ (sym c.is_outside.ensures ∙ c.if-is_outside.false)).1)

pub overflow_mul-need : goal.overflow_mul-need
overflow_mul-need c = omega (arith, lines_small _ _ (sym c.is_outside.ensures ∙ c.if-is_outside.false) _ _ c.lines_in-lines.ensures c.beside.ensures)

pub overflow_add-need : goal.overflow_add-need
overflow_add-need c = omega (arith, lines_small _ _ (sym c.is_outside.ensures ∙ c.if-is_outside.false) _ _ c.lines_in-lines.ensures c.beside.ensures, (count_range _ _ (sym c.is_outside.ensures ∙ c.if-is_outside.false)).1)

pub returns-then-out-need : goal.returns-then-out-need
returns-then-out-need c = answered-by _ _ _ (refused 12 []) (says-12 _ _ _ (sym c.is_outside.ensures ∙ c.if-is_outside.false) (omega (arith, length_found _ _ (sym c.is_outside.ensures ∙ c.if-is_outside.false) _ _ c.lines_in-lines.ensures c.beside.ensures, c.if-out-need.true))) refl refl

pub invariant_of-accepted : goal.invariant_of-accepted
invariant_of-accepted c = record { inside = sym c.is_outside.ensures ∙ c.if-is_outside.false }

pub returns : goal.returns
returns c =
    let b = sym c.is_outside.ensures ∙ c.if-is_outside.false in
    let room : length (text_all (message_of c.args.request c.args.bits.now)) ≤ length c.args.out.now =
    omega (arith, length_found _ _ (sym c.is_outside.ensures ∙ c.if-is_outside.false) _ _ c.lines_in-lines.ensures c.beside.ensures, c.if-out-need.false) in
    let s = text_all (message_of c.args.request c.args.bits.now) in
    let e : stands c.put_lines.new.out ≡ put (text 0 c.args.out.now) s = c.put_lines.ensures.is ∙ ap (λ (t : Text). put t s) c.new-lent.ensures.is in
    answered-by _ _ _ (taken _) (says-taken _ _ _ b room) (ap taken (told-length _ _ _ _ e room)) ((search rules) ∙ stands-first _ _ _ _ e room)
