-- `face_json::put_head` meets its contract. Assumes nothing.
use Rattle.std.proofs.Common.{rules}
use Rattle.layout_numbers.specs.Places.{line, channel_there, channel, type, repeat, mmsi}
use Rattle.face_rows.specs.Rows.{number, letter}
use Rattle.face_json.specs.Tables.{origin_table}
use Rattle.face_members.proofs.Shown.{◌next◌, all_shown, member-shown, or_null-shown, rows-shown, value-shown}
use Rattle.face_json.proofs.put_head.Goals as goal

pub returns : goal.returns
returns c = record {
  same = search rules;
  is = all_shown
      (value-shown c.args.numbers.now c.args.texts.now "{\"class\":\"AIS\",\"line\":" (number line) c.put_bytes.ensures.is c.put_value.ensures.is
      next rows-shown c.args.numbers.now c.args.texts.now origin_table tt c.put_origin.ensures.is
      next or_null-shown c.args.numbers.now c.args.texts.now "channel" channel_there (letter channel) c.put_bytes-2.ensures.is c.value_or_null.ensures.is
      next member-shown c.args.numbers.now c.args.texts.now "type" (number type) c.put_bytes-3.ensures.is c.put_value-2.ensures.is
      next member-shown c.args.numbers.now c.args.texts.now "repeat" (number repeat) c.put_bytes-4.ensures.is c.put_value-3.ensures.is
      next member-shown c.args.numbers.now c.args.texts.now "mmsi" (number mmsi) c.put_bytes-5.ensures.is c.put_value-4.ensures.is);
}
