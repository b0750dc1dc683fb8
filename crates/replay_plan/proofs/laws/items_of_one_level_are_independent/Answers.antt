use Rattle.replay_plan.proofs.Turns.{level_apart}
use Rattle.replay_plan.proofs.laws.items_of_one_level_are_independent.Goals as goal

pub returns : goal.returns
returns c = level_apart
