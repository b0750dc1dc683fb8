use Rattle.time_desk.proofs.States.{lost_behind}
use Rattle.time_desk.proofs.permanence.lost_stamps_stay_lost.Goals as goal

pub returns : goal.returns
returns c = lost_behind
