-- `position_report::parse_base` meets its contract, field by field: each is what its reader ensures. Assumes nothing.
use borrow.Author.Rules.{sfits_of}
use mathlib.Core.Path.{◌≡◌, ap, ◌∙◌}
use Prim.Native.Nat.{ℕ}
use lib.Dec.{eqb}
use mir.Syntax.{w32}
use mir.Val.{of_z, to_z}
use mir.Facts.{to_z-of_z}
use Rattle.parsers.specs.Field.{field_of, signed_of}
use Rattle.navigation.specs.Navigation.{speed_of, course_of, longitude_of, latitude_of, heading_of, accuracy_of, manoeuvre_of}
use Rattle.position_report.specs.Report.{rate_in, direction_in, report_with}
use Rattle.position_report.proofs.parse_base.Goals as goal

pub returns : goal.returns
unfolding report_with
returns c =
    let d = c.args.bytes.now in
    let longitude-is : to_z w32 (of_z w32 c.signed_i32-longitude_raw.result) ≡ signed_of d 61 28 =
    to_z-of_z {w = w32} {z = c.signed_i32-longitude_raw.result} (sfits_of c.signed_i32-longitude_raw.type_inv) ∙ c.signed_i32-longitude_raw.ensures in
    let latitude-is : to_z w32 (of_z w32 c.signed_i32-latitude_raw.result) ≡ signed_of d 89 27 =
    to_z-of_z {w = w32} {z = c.signed_i32-latitude_raw.result} (sfits_of c.signed_i32-latitude_raw.type_inv) ∙ c.signed_i32-latitude_raw.ensures in
    λ i.
    record {
      message_type = c.field-message_type.ensures.is i;
      repeat_indicator = c.field.ensures.is i;
      mmsi = c.field-2.ensures.is i;
      navigation_status = c.parse.ensures i;
      rate_of_turn = c.turn_in-rate_of_turn.ensures i;
      rate = (c.rate_in.ensures ∙ ap rate_in c.turn_in-rate_of_turn.ensures) i;
      direction = (c.direction_in.ensures ∙ ap direction_in c.turn_in-rate_of_turn.ensures) i;
      speed_over_ground = (c.parse_speed_over_ground.ensures ∙ ap speed_of {y = field_of d 50 10} c.field-speed_raw.ensures.is) i;
      speed_raw = c.field-speed_raw.ensures.is i;
      position_accuracy = (c.parse-2.ensures ∙ ap (λ (n : ℕ). accuracy_of (eqb n 1)) c.field-3.ensures.is) i;
      longitude = (c.parse_longitude.ensures.is ∙ ap longitude_of {y = signed_of d 61 28} longitude-is) i;
      longitude_raw = longitude-is i;
      latitude = (c.parse_latitude.ensures.is ∙ ap latitude_of {y = signed_of d 89 27} latitude-is) i;
      latitude_raw = latitude-is i;
      course_over_ground = (c.parse_cog.ensures ∙ ap course_of {y = field_of d 116 12} c.field-course_raw.ensures.is) i;
      course_raw = c.field-course_raw.ensures.is i;
      true_heading = (c.parse_heading.ensures ∙ ap heading_of c.field-4.ensures.is) i;
      timestamp = c.field-5.ensures.is i;
      maneuver_indicator = (c.parse-3.ensures ∙ ap manoeuvre_of c.field-6.ensures.is) i;
      raim = ap (λ (n : ℕ). eqb n 1) c.field-7.ensures.is i;
      radio_status = c.args.status;
    }
