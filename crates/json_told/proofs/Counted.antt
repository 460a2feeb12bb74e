-- The number by which a complete message is counted is its type. Assumes nothing.
use Prim.Native.Nat.{ℕ}
use mathlib.Core.Path.{◌≡◌, refl}
use lib.ListN.{get_or}
use Rattle.refusal.specs.Words.{Told, taken, refused}
use Rattle.static_data_report.specs.declared.Texts.{Texts}
use Rattle.interrogation.specs.declared.Interrogation.{Interrogation}
use Rattle.messages.specs.declared.AisMessage.{AisMessage}
use Rattle.answer.specs.Answer.{Progress}
use Rattle.answer.specs.declared.Sentence.{Sentence}
use Rattle.layout_answer.specs.Layout.{layout_by}
use Rattle.layout_numbers.specs.Places as at
use Rattle.json_told.specs.Answer.{type_by}

pub type_laid : (t : Told Progress) (s : Sentence) (content : AisMessage) (texts : Texts) (i : Interrogation) (line radio : ℕ)
    → get_or (layout_by t s (record { content = content; texts = texts; interrogation = i }) line radio).numbers at.type 0 ≡ type_by content i
type_laid (taken p) s AisMessage.Nothing texts i line radio = refl
type_laid (taken p) s (AisMessage.PositionReport r) texts i line radio = refl
type_laid (taken p) s (AisMessage.StaticDataReport r) texts i line radio = refl
type_laid (taken p) s AisMessage.Interrogation texts i line radio = refl
type_laid (refused n values) s AisMessage.Nothing texts i line radio = refl
type_laid (refused n values) s (AisMessage.PositionReport r) texts i line radio = refl
type_laid (refused n values) s (AisMessage.StaticDataReport r) texts i line radio = refl
type_laid (refused n values) s AisMessage.Interrogation texts i line radio = refl
