-- What is said to a command of the comparing protocol, and the record that it leaves. What stands in quotes is its text.
use Rattle.std.specs.Prelude.{ℕ, List}
use Rattle.reassembly.specs.declared.Record.{Record}
use Rattle.trace_commands.specs.Asked.{bad}

-- what is said to a command, and the record after it
pub record Reply : Type 0 where
  pub said : List ℕ
  pub kept : Record

abbrev pub reply : List ℕ → Record → Reply
reply said kept = record { said = said; kept = kept }

-- "A command that is not in this form is answered `bad command`, and changes nothing."
abbrev pub bad_reply : Record → Reply
bad_reply state = reply bad state
