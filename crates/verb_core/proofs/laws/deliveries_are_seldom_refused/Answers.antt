use Rattle.verb_core.proofs.LiveLaws.{delivery_refused}
use Rattle.verb_core.proofs.laws.deliveries_are_seldom_refused.Goals as goal

pub returns : goal.returns
returns c = delivery_refused
