-- `trace_protocol::say_lend` meets its contract. Assumes nothing.
use Prim.Native.Nat.{ℕ}
use mathlib.Core.Bool.{true, false, true≢false}
use mathlib.Core.Path.{◌≡◌, refl, sym, ap, ◌∙◌}
use lib.ListN.{replicate}
use Rattle.std.specs.Prelude.{Option, Some, None}
use Rattle.std.specs.Option.{is_some}
use Rattle.reassembly.specs.Record.{record_of}
use Rattle.trace_commands.specs.Line.{word_at}
use Rattle.trace_commands.proofs.Laws.{filled-over}
use Rattle.trace_protocol.proofs.say_lend.Goals as goal

none_of : (r : Option ℕ) → is_some r ≡ false → r ≡ None
none_of None e = refl
none_of (Some n) e = absurd (true≢false e)

some_of : (r : Option ℕ) → is_some r ≡ true → (n : ℕ) × (r ≡ Some n)
some_of None e = absurd (true≢false (sym e))
some_of (Some n) e = (n, refl)

pub returns-in_default : goal.returns-in_default
returns-in_default c = rw (sym c.ask_lend.ensures ∙ c.in_default.is) c.no_command.ensures

pub returns-then-is_none : goal.returns-then-is_none
returns-then-is_none c =
    rw (
      sym c.ask_lend.ensures ∙ c.in-Some.is,
      sym c.bytes.ensures.answers ∙ none_of c.bytes.result c.if-is_none.ensures,
    )
    c.no_command-then-is_none.ensures

pub returns : goal.returns
returns c =
    let w = word_at 4 c.args.line.now in
    let s = some_of c.bytes.result c.if-is_none.ensures in
    let a = c.in-Some.asked in
    rw (sym c.ask_lend.ensures ∙ c.in-Some.is, sym c.bytes.ensures.answers ∙ s.1) (record {
      said = c.put_bytes.ensures;
      kept = c.made.ensures ∙ ap (record_of a.number a.fragment a.len) (filled-over w (replicate 384 0) _ _ c.bytes.ensures s.0 s.1);
    })
