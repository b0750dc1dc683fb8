use Rattle.replay_plan.proofs.Turns.{levels_turn, level_may, level_first, level_least}
use Rattle.replay_plan.proofs.laws.levels_are_least.Goals as goal

pub returns : goal.returns
returns c = record { turn = levels_turn; may = level_may; first = level_first; least = level_least }
