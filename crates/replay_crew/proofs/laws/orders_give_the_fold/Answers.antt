use Rattle.replay_crew.proofs.Turning.{order_store, order_told}
use Rattle.replay_crew.proofs.laws.orders_give_the_fold.Goals as goal

pub returns : goal.returns
returns c = record { store = order_store; answers = order_told }
