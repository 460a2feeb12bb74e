-- The reply to a command line, by its first word. Assumes nothing.
use Prim.Native.Nat.{ℕ}
use mathlib.Core.Path.{◌≡◌, sym, subst}
use mathlib.Core.Bool.{true, false}
use mathlib.Core.List.{List}
use Rattle.text_out.specs.Text.{ascii}
use Rattle.text_out.specs.Output.{Puts}
use Rattle.text_out.specs.declared.Output.{Output}
use Rattle.trace_commands.specs.Line.{word_at}
use Rattle.lines.specs.Same.{same_as}
use Rattle.reassembly.specs.declared.Record.{Record}
use Rattle.trace_alone.specs.Alone.{alone_said}
use Rattle.trace_commands.specs.Reply.{Reply, reply}
use Rattle.trace_protocol.specs.Lend.{fresh_reply, lend_reply}
use Rattle.trace_protocol.specs.Read.{read_reply}
use Rattle.trace_protocol.specs.Said.{reply_of}

module _ (state : Record) (line : List ℕ) where
  pub reply-fresh : same_as (word_at 0 line) (ascii "fresh") ≡ true → reply_of state line ≡ fresh_reply state line
  unfolding reply_of
  reply-fresh e = rw e

  module _ (d : same_as (word_at 0 line) (ascii "fresh") ≡ false) where
    pub reply_lend : same_as (word_at 0 line) (ascii "lend") ≡ true → reply_of state line ≡ lend_reply state line
    unfolding reply_of
    reply_lend e = rw (d, e)

    module _ (l : same_as (word_at 0 line) (ascii "lend") ≡ false) where
      pub reply-read : same_as (word_at 0 line) (ascii "read") ≡ true → reply_of state line ≡ read_reply state line
      unfolding reply_of
      reply-read e = rw (d, l, e)

      pub reply-alone : same_as (word_at 0 line) (ascii "read") ≡ false → reply_of state line ≡ reply (alone_said line) state
      unfolding reply_of
      reply-alone e = rw (d, l, e)

-- what was said, and the record that was kept, of an equal reply
pub as_replied : {a b : Reply} → a ≡ b → (x y : Output) (state : Record) → Puts x y b.said × (state ≡ b.kept) → Puts x y a.said × (state ≡ a.kept)
as_replied e x y state f = subst (λ (r : Reply). Puts x y r.said × (state ≡ r.kept)) (sym e) f
