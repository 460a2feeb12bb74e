-- Numbers that tell nothing. Assumes nothing.
use mathlib.Core.Path.{◌≡◌, refl}
use Prim.Native.Nat.{ℕ, zero, suc, ◌≤◌, ◌<◌}
use native.Mathlib.Omega.{arith}
use lib.ListN.{get_or-eq_default}
use Rattle.sentence.specs.declared.TalkerId.{TalkerId}
use Rattle.sentence.specs.declared.AisReportType.{AisReportType}
use Rattle.sumturnip.specs.Request.{talkers, reports, talker_by, report_by}

pub past : {k n : ℕ} → k ≤ n → (n ≡ k → ⊥) → suc k ≤ n
past h d = omega arith

pub no_talker : (n : ℕ) → (0 < n → 11 ≤ n) → talker_by n ≡ TalkerId.Unknown
unfolding talker_by
no_talker zero h = refl
no_talker (suc n) h = get_or-eq_default talkers TalkerId.Unknown (h (omega arith))

pub no_report_lem : (n : ℕ) → (0 < n → 3 ≤ n) → report_by n ≡ AisReportType.Unknown
unfolding report_by
no_report_lem zero h = refl
no_report_lem (suc n) h = get_or-eq_default reports AisReportType.Unknown (h (omega arith))
