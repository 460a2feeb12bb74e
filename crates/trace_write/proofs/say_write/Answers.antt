-- `trace_write::say_write` meets its contract. Assumes nothing.
use Rattle.std.proofs.Common.{rules}
use Prim.Native.Nat.{ℕ}
use mathlib.Core.Path.{sym, ap, ◌∙◌}
use mathlib.Core.List.{List}
use lib.ListN.{take}
use Rattle.text_out.specs.Text.{put}
use Rattle.text_out.specs.Output.{stands}
use Rattle.text_out.proofs.Laws.{take_min}
use Rattle.trace_commands.specs.Line.{word_at}
use Rattle.trace_commands.specs.Hex.{bytes_of}
use Rattle.trace_commands.proofs.Laws.{filled-bytes, filled-inside, filled-length}
use Rattle.trace_write.specs.Write.{write_shown}
use Rattle.trace_write.proofs.say_write.Goals as goal

pub returns-in_default : goal.returns-in_default
returns-in_default c = rw (sym c.ask_write.ensures ∙ c.in_default.is) c.say_bad.ensures

pub returns-in_default-bytes : goal.returns-in_default-bytes
returns-in_default-bytes c =
    let w = word_at 7 c.args.line.now in
    rw (
      sym c.ask_write.ensures ∙ c.in-Some.is,
      sym c.bytes.ensures.answers ∙ c.in_default-bytes.is,
    )
    c.say_bad-in_default-bytes.ensures

pub slice_bounds-payload-end : goal.slice_bounds-payload-end
slice_bounds-payload-end c = filled-inside _ _ _ _ c.bytes.ensures _ c.in-Some-bytes.is

pub slice_bounds-show_write-end : goal.slice_bounds-show_write-end
slice_bounds-show_write-end c = filled-length _ _ _ _ c.bytes.ensures _ c.in-Some-bytes.is

pub returns : goal.returns
returns c =
    let w = word_at 7 c.args.line.now in
    let x = stands c.args.out.now in
    let read = filled-bytes _ _ _ _ c.bytes.ensures _ c.in-Some-bytes.is in
    let lent =
    ap (λ (i : ℕ). take i c.lent-lent.result) c.up_to-m.ensures.value ∙ take_min c.in-Some.asked.room c.lent-lent.result ∙ ap (take c.in-Some.asked.room) c.lent-lent.ensures in
    rw (
      sym c.ask_write.ensures ∙ c.in-Some.is,
      sym c.bytes.ensures.answers ∙ c.in-Some-bytes.is,
    )
    (record {
      same = search rules;
      is =
          c.show_write.ensures.is ∙ ap (λ (t : List ℕ). put x (write_shown c.in-Some.asked.request t (take c.up_to-m.result c.lent-lent.result))) read
          ∙ ap (λ (t : List ℕ). put x (write_shown c.in-Some.asked.request (bytes_of w) t)) lent;
    })
