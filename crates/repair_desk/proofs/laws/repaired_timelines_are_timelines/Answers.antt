use Rattle.repair_desk.proofs.Everywhere.{timeline_again, all_below, revs_below}
use Rattle.repair_desk.proofs.laws.repaired_timelines_are_timelines.Goals as goal

pub returns : goal.returns
returns c = record { timeline = timeline_again; below = all_below; revs = revs_below }
