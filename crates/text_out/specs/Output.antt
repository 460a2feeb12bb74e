-- An output as a text: what stands in its buffer, and the place where the next byte goes.
use Rattle.std.specs.Prelude.{ℕ, List, ◌≡◌}
use Rattle.text_out.specs.Text.{Text, text, put}
use Rattle.text_out.specs.declared.Output.{Output}

abbrev pub stands : Output → Text
stands o = text o.at o.buffer.now

-- it is the same output, and s was put into it
pub record Puts (old new : Output) (s : List ℕ) : Type 0 where
  pub same : new.buffer.ghost_name ≡ old.buffer.ghost_name
  pub is : stands new ≡ put (stands old) s
