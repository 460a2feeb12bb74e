-- `face_json::put_position` meets its contract. Assumes nothing.
use Rattle.std.proofs.Common.{rules}
use Rattle.face_rows.specs.Code.{rows_in}
use Rattle.face_json.specs.Tables.{head_table, status_members, motion_members, place_members, course_members, last_table}
use Rattle.face_members.proofs.Shown.{◌next◌, all_shown, rows-shown}
use Rattle.face_json.proofs.put_position.Goals as goal

pub returns : goal.returns
unfolding rows_in
returns c = record {
  same = search rules;
  is = all_shown
      (rows-shown c.args.numbers.now c.args.texts.now head_table tt c.put_head.ensures.is
      next rows-shown c.args.numbers.now c.args.texts.now status_members tt c.put_status.ensures.is
      next rows-shown c.args.numbers.now c.args.texts.now motion_members tt c.put_motion.ensures.is
      next rows-shown c.args.numbers.now c.args.texts.now place_members tt c.put_place.ensures.is
      next rows-shown c.args.numbers.now c.args.texts.now course_members tt c.put_course.ensures.is
      next rows-shown c.args.numbers.now c.args.texts.now last_table tt c.put_rows.ensures.is);
}
