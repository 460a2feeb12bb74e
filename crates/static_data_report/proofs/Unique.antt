-- The promise of a message of type 24 has one outcome, which is the answer of its definition. Assumes nothing.
use mathlib.Core.Path.{◌≡◌, refl, sym, ap, ◌∙◌}
use mathlib.Core.List.{List}
use Prim.Native.Nat.{ℕ}
use Rattle.std.specs.Prelude.{Result, Ok, Err}
use Rattle.refusal.specs.Words.{Told}
use Rattle.refusal.specs.declared.Refusal.{Refusal}
use Rattle.refusal.proofs.Unique.{untold, untold_told}
use Rattle.static_data_report.specs.StaticData.{static_data_of, reported_in, report_in, texts_in, Reports}
use Rattle.static_data_report.specs.declared.StaticDataReport.{StaticDataReport}
use Rattle.static_data_report.specs.declared.Texts.{Texts}
use Rattle.static_data_report.specs.declared.StaticData.{StaticData}
use Rattle.static_data_report.proofs.Sound.{answers}

abbrev reported_by : Told StaticDataReport → Result StaticDataReport Refusal
reported_by = untold Ok Err

reported_back : (r : Result StaticDataReport Refusal) → reported_by (reported_in r) ≡ r
reported_back (Ok s) = refl
reported_back (Err r) = untold_told {A = StaticDataReport} Ok Err r

pub same_reported : (a b : Result StaticDataReport Refusal) → reported_in a ≡ reported_in b → a ≡ b
same_reported a b e = sym (reported_back a) ∙ ap reported_by e ∙ reported_back b

-- an answer, from its report and its texts
abbrev with_texts : Result StaticDataReport Refusal → Texts → Result StaticData Refusal
with_texts (Ok s) texts = Ok (record { report = s; texts = texts })
with_texts (Err r) texts = Err r

texts_back : (a : Result StaticData Refusal) → with_texts (report_in a) (texts_in a) ≡ a
texts_back (Ok a) = refl
texts_back (Err r) = refl

same_static : (a b : Result StaticData Refusal) → report_in a ≡ report_in b → texts_in a ≡ texts_in b → a ≡ b
same_static a b e t = sym (texts_back a) ∙ ap (λ (r : Result StaticDataReport Refusal). with_texts r (texts_in a)) e ∙ ap (with_texts (report_in b)) t ∙ texts_back b

module _ (d : List ℕ) (r : Result StaticData Refusal) where
  pub promised : r ≡ static_data_of d → Reports d r
  promised e = record { told = ap (λ (a : Result StaticData Refusal). reported_in (report_in a)) e ∙ answers d; beside = ap texts_in e }

  -- the law for callers
  pub is-answer : Reports d r → r ≡ static_data_of d
  is-answer p = same_static r (static_data_of d) (same_reported (report_in r) (report_in (static_data_of d)) (p.told ∙ sym (answers d))) p.beside

pub unique : (d : List ℕ) (a b : Result StaticData Refusal) → Reports d a → Reports d b → a ≡ b
unique d a b p q = is-answer d a p ∙ sym (is-answer d b q)
