-- `radio_status::parse_radio` meets its contract: no status of this type, too few bytes, or the status. Assumes nothing.
use Rattle.std.specs.Prelude.{Ok}
use mathlib.Core.Path.{ap, sym, ◌∙◌}
use native.Mathlib.Omega.{arith}
use Rattle.refusal.proofs.Within.{in_range, below_range, above_range}
use Rattle.radio_status.specs.Radio.{radio_in}
use Rattle.radio_status.specs.declared.RadioStatus.{RadioStatus}
use Rattle.radio_status.proofs.Laws.{no_radio, radio-ends, radio-is}
use Rattle.radio_status.proofs.parse_radio.Goals as goal

pub returns-in-1-to-3 : goal.returns-in-1-to-3
returns-in-1-to-3 c = sym (radio-ends _ _ (in_range 1 3 _ (omega arith) (omega arith)) (omega arith))

pub returns-in-1-to-3-2 : goal.returns-in-1-to-3-2
returns-in-1-to-3-2 c =
    ap (λ (s : RadioStatus). radio_in (Ok s)) c.read_radio.ensures
    ∙ sym (radio-is _ _ (in_range 1 3 _ (omega arith) (omega arith)) (omega arith))

pub returns-in_default : goal.returns-in_default
returns-in_default c = sym (no_radio _ _ (below_range 1 3 _ (omega arith)))

pub returns-in_default-2 : goal.returns-in_default-2
returns-in_default-2 c = sym (no_radio _ _ (above_range 1 3 _ (omega arith) (omega arith)))
