use Rattle.time_desk.proofs.Resolving.{resolved_in_turn}
use Rattle.time_desk.proofs.plan.items_are_resolved_in_turn.Goals as goal

pub returns : goal.returns
returns c = resolved_in_turn
