-- What is checked of a complete payload that is decoded. What stands in quotes is document 01's text.
use Rattle.std.specs.Prelude.{List, [], ◌∷◌, ℕ}
use Rattle.refusal.specs.Words.{Check, check}
use Rattle.armour.specs.Armour.{first_bad, unarmored}
use Rattle.armour.specs.Unarmor.{no_armour}
use Rattle.messages.specs.Messages.{decode_checks}

-- 8: "byte cannot be unarmored", then 9, 10 or 11 of the unarmored bytes
abbrev pub message_checks : List ℕ → ℕ → List Check
message_checks s fill = check (no_armour s) 8 (first_bad s ∷ []) ∷ decode_checks (unarmored s fill)
