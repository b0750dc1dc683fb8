use Rattle.replay_crew.proofs.ByLevels.{plan_order}
use Rattle.replay_crew.proofs.laws.plans_are_orders.Goals as goal

pub returns : goal.returns
returns c = plan_order
