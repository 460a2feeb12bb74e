-- `face_json::put_status` meets its contract. Assumes nothing.
use Rattle.std.proofs.Common.{rules}
use mathlib.Core.Path.{refl}
use lib.ListN.{get_or}
use Rattle.layout_numbers.specs.Places.{status}
use Rattle.face_members.specs.Words.{status_word}
use Rattle.face_json.proofs.Statuses.{status-says}
use Rattle.face_members.proofs.Shown.{◌next◌, all_shown, keyed, unless-null-shown}
use Rattle.face_json.proofs.put_status.Goals as goal

pub returns : goal.returns
returns c = record {
  same = search rules;
  is = all_shown
      (unless-null-shown c.args.numbers.now c.args.texts.now "status" status 15 c.put_bytes.ensures.is c.unless_null.ensures.is
      next keyed c.args.numbers.now c.args.texts.now "status_text" (status_word (get_or c.args.numbers.now status 0)) (status-says (get_or c.args.numbers.now status 0) refl) c.put_bytes-2.ensures.is c.put_words.ensures.is);
}
