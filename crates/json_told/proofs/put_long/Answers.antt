-- `json_told::put_long` meets its contract. Assumes nothing.
use mathlib.Core.Path.{refl, sym}
use Rattle.refusal.specs.declared.Refusal.{Refusal}
use Rattle.text_out.proofs.Laws.{put-nothing}
use Rattle.json_told.proofs.put_long.Goals as goal

pub returns-in-All : goal.returns-in-All
returns-in-All c = record {
  same = c.put_refused.ensures.same;
  is = rw c.in-All.is (c.put_refused.ensures.is Refusal.LineTooLong (record { its = refl; first = refl; second = refl }));
}

pub returns-in-Quiet : goal.returns-in-Quiet
returns-in-Quiet c = record { same = refl; is = rw c.in-Quiet.is (sym (put-nothing _)) }
