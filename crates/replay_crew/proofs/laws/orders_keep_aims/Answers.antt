use Rattle.replay_crew.proofs.AimsHeld.{order_aimed}
use Rattle.replay_crew.proofs.laws.orders_keep_aims.Goals as goal

pub returns : goal.returns
returns c = order_aimed
