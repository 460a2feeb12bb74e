-- `face_json::put_course` meets its contract. Assumes nothing.
use Rattle.std.proofs.Common.{rules}
use Rattle.layout_numbers.specs.Places.{course_there, the_course_raw, heading_there, heading, second}
use Rattle.face_rows.specs.Rows.{number, tenths}
use Rattle.face_members.proofs.Shown.{◌next◌, all_shown, member-shown, or_null-shown}
use Rattle.face_json.proofs.put_course.Goals as goal

pub returns : goal.returns
returns c = record {
  same = search rules;
  is = all_shown
      (or_null-shown c.args.numbers.now c.args.texts.now "course" course_there (tenths the_course_raw) c.put_bytes.ensures.is c.value_or_null.ensures.is
      next member-shown c.args.numbers.now c.args.texts.now "course_raw" (number the_course_raw) c.put_bytes-2.ensures.is c.put_value.ensures.is
      next or_null-shown c.args.numbers.now c.args.texts.now "heading" heading_there (number heading) c.put_bytes-3.ensures.is c.value_or_null-2.ensures.is
      next member-shown c.args.numbers.now c.args.texts.now "second" (number second) c.put_bytes-4.ensures.is c.put_value-2.ensures.is);
}
