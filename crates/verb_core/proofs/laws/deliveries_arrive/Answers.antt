use Rattle.verb_core.proofs.Deliveries.{arrives-step}
use Rattle.verb_core.proofs.laws.deliveries_arrive.Goals as goal

pub returns : goal.returns
returns c = arrives-step
