-- `trace_protocol::lend_read` meets its contract. Assumes nothing.
use Prim.Native.Nat.{ℕ}
use mathlib.Core.Path.{◌≡◌, ap, ◌∙◌}
use lib.ListN.{take}
use Rattle.text_out.proofs.Laws.{take_min}
use Rattle.trace_show.specs.Shown.{lent_bytes}
use Rattle.trace_protocol.proofs.lend_read.Goals as goal

pub returns : goal.returns
returns c =
    let payload : take c.up_to-n.result c.lent-payload.result ≡ take c.args.room lent_bytes =
    ap (λ (i : ℕ). take i c.lent-payload.result) c.up_to-n.ensures.value ∙ take_min c.args.room c.lent-payload.result ∙ ap (take c.args.room) c.lent-payload.ensures in
    let bits : take c.up_to-m.result c.lent-bits.result ≡ take c.args.bitroom lent_bytes =
    ap (λ (i : ℕ). take i c.lent-bits.result) c.up_to-m.ensures.value ∙ take_min c.args.bitroom c.lent-bits.result ∙ ap (take c.args.bitroom) c.lent-bits.ensures in
    rw (← payload, ← bits) c.show_read.ensures
