use Rattle.withdraw.proofs.Back.{below_back, fresh_back, revs_back, timeline_back}
use Rattle.withdraw.proofs.laws.unedited_timelines_are_timelines.Goals as goal

pub returns : goal.returns
returns c = record {
  timeline = λ house present last timeline back. timeline_back house present last back timeline;
  below = λ house present last next lt back below. below_back house present last back next lt below;
  revs = revs_back;
  fresh = fresh_back;
}
