-- The last thirty-four numbers of an answer, and its eighty bytes of text: the message.
use Rattle.std.specs.Prelude.{ℕ, List, replicate}
use Rattle.messages.specs.declared.AisMessage.{AisMessage}
use Rattle.messages.specs.declared.Message.{Message}
use Rattle.layout_position.specs.Position.{position_numbers}
use Rattle.layout_message.specs.Static.{static_numbers, text_bytes}
use Rattle.layout_message.specs.Asked.{asked_numbers}

-- by its kind; no message is zeros
abbrev pub content_numbers : AisMessage → Message → List ℕ
content_numbers AisMessage.Nothing m = replicate 34 0
content_numbers (AisMessage.PositionReport p) m = position_numbers p
content_numbers (AisMessage.StaticDataReport s) m = static_numbers s m.texts
content_numbers AisMessage.Interrogation m = asked_numbers m.interrogation

abbrev pub message_numbers : Message → List ℕ
message_numbers m = content_numbers m.content m

-- a static data report's texts; any other message has none, and its bytes are zeros
abbrev pub content_texts : AisMessage → Message → List ℕ
content_texts AisMessage.Nothing m = replicate 80 0
content_texts (AisMessage.PositionReport p) m = replicate 80 0
content_texts (AisMessage.StaticDataReport s) m = text_bytes m.texts
content_texts AisMessage.Interrogation m = replicate 80 0

abbrev pub message_texts : Message → List ℕ
message_texts m = content_texts m.content m
