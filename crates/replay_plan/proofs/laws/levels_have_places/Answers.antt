use Rattle.replay_plan.proofs.Turns.{places_there}
use Rattle.replay_plan.proofs.laws.levels_have_places.Goals as goal

pub returns : goal.returns
returns c = places_there
