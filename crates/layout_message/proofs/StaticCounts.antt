-- How many numbers a part has, and how many bytes the texts. Assumes nothing.
use native.Mathlib.Omega.{arith}
use mathlib.Core.Path.{◌≡◌, refl}
use mathlib.Core.List.{◌++◌}
use lib.ListN.{length, length-append}
use Rattle.static_data_report.specs.declared.MessagePart.{MessagePart}
use Rattle.static_data_report.specs.declared.Texts.{Texts}
use Rattle.layout_message.specs.Static.{part_numbers, text_bytes}

pub part_eight : (p : MessagePart) → length (part_numbers p) ≡ 8
part_eight MessagePart.PartA = refl
part_eight (MessagePart.PartB b) = refl
part_eight (MessagePart.Unknown n) = refl

pub texts-length : (t : Texts) → length t.vessel_name.bytes ≡ 20 → length t.vendor_id.bytes ≡ 20
    → length t.model_serial.bytes ≡ 20 → length t.callsign.bytes ≡ 20
    → length (text_bytes t) ≡ 80
texts-length t name vendor model callsign =
    let a = length-append t.vessel_name.bytes (t.vendor_id.bytes ++ (t.model_serial.bytes ++ t.callsign.bytes)) in
    let b = length-append t.vendor_id.bytes (t.model_serial.bytes ++ t.callsign.bytes) in
    let c = length-append t.model_serial.bytes t.callsign.bytes in
    omega (arith, a, b, c, name, vendor, model, callsign)
