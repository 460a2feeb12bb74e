-- `trace_protocol::say_read` meets its contract. Assumes nothing.
use mathlib.Core.Path.{◌≡◌, sym, ◌∙◌}
use lib.ListN.{take}
use Rattle.trace_commands.specs.Line.{word_at}
use Rattle.trace_commands.specs.Hex.{bytes_of}
use Rattle.trace_commands.proofs.Laws.{filled-bytes, filled-inside, filled-length}
use Rattle.trace_protocol.proofs.say_read.Goals as goal

pub returns-in_default : goal.returns-in_default
returns-in_default c = rw (sym c.ask_read.ensures ∙ c.in_default.is) c.no_command.ensures

pub returns-in_default-bytes : goal.returns-in_default-bytes
returns-in_default-bytes c =
    rw (
      sym c.ask_read.ensures ∙ c.in-Some.is,
      sym c.bytes.ensures.answers ∙ c.in_default-bytes.is,
    )
    c.no_command-in_default-bytes.ensures

pub slice_bounds-sent-end : goal.slice_bounds-sent-end
slice_bounds-sent-end c = filled-inside _ _ _ _ c.bytes.ensures _ c.in-Some-bytes.is

pub slice_bounds-lend_read-end : goal.slice_bounds-lend_read-end
slice_bounds-lend_read-end c = filled-length _ _ _ _ c.bytes.ensures _ c.in-Some-bytes.is

pub returns : goal.returns
returns c =
    let read : take c.in-Some-bytes.n c.bytes.new.into ≡ bytes_of (word_at 4 c.args.line.now) = filled-bytes _ _ _ _ c.bytes.ensures _ c.in-Some-bytes.is in
    rw (
      sym c.ask_read.ensures ∙ c.in-Some.is,
      sym c.bytes.ensures.answers ∙ c.in-Some-bytes.is,
      ← read,
    )
    c.lend_read.ensures
