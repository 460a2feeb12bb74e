-- `trace_commands::words::first` meets its contract. Assumes nothing.
use mathlib.Core.Path.{ap, ◌∙◌}
use lib.ListN.{length}
use Rattle.std.specs.Prelude.{Option, unwrap_or}
use Prim.Native.Nat.{ℕ}
use Rattle.trace_commands.proofs.Cuts.{first_word}
use Rattle.trace_commands.proofs.words.first.Goals as goal

pub returns : goal.returns
returns c = first_word c.args.line.now c.unwrap_or-to.result (c.unwrap_or-to.ensures ∙ ap (λ (o : Option ℕ). unwrap_or o (length c.args.line.now)) c.space.ensures)
