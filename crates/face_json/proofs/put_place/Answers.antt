-- `face_json::put_place` meets its contract. Assumes nothing.
use Rattle.std.proofs.Common.{rules}
use Rattle.layout_numbers.specs.Places.{accuracy, longitude_there, the_longitude_raw, latitude_there, the_latitude_raw}
use Rattle.face_rows.specs.Rows.{signed, degrees}
use Rattle.face_members.proofs.Shown.{◌next◌, all_shown, flag-shown, member-shown, or_null-shown}
use Rattle.face_json.proofs.put_place.Goals as goal

pub returns : goal.returns
returns c = record {
  same = search rules;
  is = all_shown
      (flag-shown c.args.numbers.now c.args.texts.now "accuracy" accuracy c.put_bytes.ensures.is c.put_flag.ensures.is
      next or_null-shown c.args.numbers.now c.args.texts.now "lon" longitude_there (degrees the_longitude_raw) c.put_bytes-2.ensures.is c.value_or_null.ensures.is
      next member-shown c.args.numbers.now c.args.texts.now "lon_raw" (signed the_longitude_raw) c.put_bytes-3.ensures.is c.put_value.ensures.is
      next or_null-shown c.args.numbers.now c.args.texts.now "lat" latitude_there (degrees the_latitude_raw) c.put_bytes-4.ensures.is c.value_or_null-2.ensures.is
      next member-shown c.args.numbers.now c.args.texts.now "lat_raw" (signed the_latitude_raw) c.put_bytes-5.ensures.is c.put_value-2.ensures.is);
}
