-- How many numbers a message has. Assumes nothing.
use native.Mathlib.Omega.{arith}
use mathlib.Core.Path.{◌≡◌, refl}
use mathlib.Core.List.{◌++◌}
use lib.ListN.{length, length-append, replicate}
use Rattle.radio_status.specs.declared.SubMessage.{SubMessage}
use Rattle.radio_status.specs.declared.RadioStatus.{RadioStatus}
use Rattle.messages.specs.declared.AisMessage.{AisMessage}
use Rattle.messages.specs.declared.Message.{Message}
use Rattle.layout_position.specs.Position.{sub_numbers, radio_numbers}
use Rattle.layout_message.specs.Static.{part_numbers, length_numbers}
use Rattle.layout_message.proofs.StaticCounts.{part_eight}
use Rattle.layout_message.specs.Message.{content_numbers, message_numbers}

sub_three : (m : SubMessage) → length (sub_numbers m) ≡ 3
sub_three (SubMessage.SlotOffset n) = refl
sub_three (SubMessage.UtcHourAndMinute hour minute) = refl
sub_three (SubMessage.SlotNumber n) = refl
sub_three (SubMessage.ReceivedStations n) = refl

radio-six : (r : RadioStatus) → length (radio_numbers r) ≡ 6
radio-six (RadioStatus.Sotdma m) = rw (sub_three m.sub_message)
radio-six (RadioStatus.Itdma m) = refl

content-length : (a : AisMessage) (m : Message) → length (content_numbers a m) ≡ 34
content-length AisMessage.Nothing m = refl
content-length (AisMessage.PositionReport p) m = rw (radio-six p.radio_status)
content-length (AisMessage.StaticDataReport s) m =
    let l = length-append (part_numbers s.message_part) (length_numbers m.texts ++ replicate 18 0) in
    omega (arith, l, part_eight s.message_part)
content-length AisMessage.Interrogation m = refl

pub message-length : (m : Message) → length (message_numbers m) ≡ 34
message-length m = content-length m.content m
