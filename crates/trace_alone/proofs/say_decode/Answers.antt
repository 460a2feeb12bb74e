-- `trace_alone::say_decode` meets its contract. Assumes nothing.
use Rattle.std.proofs.Common.{rules}
use Prim.Native.Nat.{ℕ}
use mathlib.Core.Path.{sym, ap, ◌∙◌}
use mathlib.Core.List.{List}
use borrow.Author.Tests.{eq-eqb, ne_eqb}
use Rattle.text_out.specs.Text.{put}
use Rattle.text_out.specs.Output.{stands}
use Rattle.trace_commands.proofs.Laws.{filled-bytes, filled-inside, filled-length}
use Rattle.trace_alone.specs.Message.{decoded_shown}
use Rattle.trace_alone.proofs.say_decode.Goals as goal

pub returns-then-count-ne2 : goal.returns-then-count-ne2
returns-then-count-ne2 c = rw (ne_eqb _ 2 (λ e. c.if-count-ne2.true (c.count.ensures ∙ e))) c.say_bad.ensures

pub returns-in_default : goal.returns-in_default
returns-in_default c =
    rw (
      eq-eqb _ 2 (sym c.count.ensures ∙ c.if-count-ne2.false),
      sym c.bytes.ensures.answers ∙ c.in_default.is,
    )
    c.say_bad-in_default.ensures

pub slice_bounds-payload-end : goal.slice_bounds-payload-end
slice_bounds-payload-end c = filled-inside _ _ _ _ c.bytes.ensures _ c.in-Some.is

pub slice_bounds-put_decoded-end : goal.slice_bounds-put_decoded-end
slice_bounds-put_decoded-end c = filled-length _ _ _ _ c.bytes.ensures _ c.in-Some.is

pub returns : goal.returns
returns c =
    rw (
      eq-eqb _ 2 (sym c.count.ensures ∙ c.if-count-ne2.false),
      sym c.bytes.ensures.answers ∙ c.in-Some.is,
    )
    (record {
      same = search rules;
      is = c.put_decoded.ensures.is ∙ ap (λ (t : List ℕ). put (stands c.args.out.now) (decoded_shown t)) (filled-bytes _ _ _ _ c.bytes.ensures _ c.in-Some.is);
    })
