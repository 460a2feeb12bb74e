-- NOTHING IS LOST: what a command gives back and the output are told by the record and the text. Assumes nothing.
use mathlib.Core.Path.{◌≡◌}
use Rattle.reassembly.specs.declared.Record.{Record}
use Rattle.text_out.specs.Output.{stands}
use Rattle.text_out.specs.declared.Output.{Output}
use Rattle.text_out.proofs.Unique.{same_text}

pub same_answered : (r s : Record) (a b : Output) → stands a ≡ stands b → r ≡ s → (r ≡ s) × (a.at ≡ b.at) × (a.buffer.now ≡ b.buffer.now)
same_answered r s a b e k =
    let t = same_text a.at b.at a.buffer.now b.buffer.now e in
    (k, t.0, t.1)
