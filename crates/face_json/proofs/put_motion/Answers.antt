-- `face_json::put_motion` meets its contract. Assumes nothing.
use Rattle.std.proofs.Common.{rules}
use Rattle.layout_numbers.specs.Places.{turn_there, turn, rate_there, rate, speed_there, the_speed_raw}
use Rattle.face_rows.specs.Rows.{number, signed, tenths, float}
use Rattle.face_members.proofs.Shown.{◌next◌, all_shown, member-shown, or_null-shown}
use Rattle.face_json.proofs.put_motion.Goals as goal

pub returns : goal.returns
returns c = record {
  same = search rules;
  is = all_shown
      (or_null-shown c.args.numbers.now c.args.texts.now "turn" turn_there (signed turn) c.put_bytes.ensures.is c.value_or_null.ensures.is
      next or_null-shown c.args.numbers.now c.args.texts.now "turn_rate" rate_there (float rate) c.put_bytes-2.ensures.is c.value_or_null-2.ensures.is
      next or_null-shown c.args.numbers.now c.args.texts.now "speed" speed_there (tenths the_speed_raw) c.put_bytes-3.ensures.is c.value_or_null-3.ensures.is
      next member-shown c.args.numbers.now c.args.texts.now "speed_raw" (number the_speed_raw) c.put_bytes-4.ensures.is c.put_value.ensures.is);
}
