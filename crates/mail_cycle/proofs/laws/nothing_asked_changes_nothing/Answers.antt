use Rattle.mail_cycle.proofs.Left.{nothing_broken, nothing_new}
use Rattle.mail_cycle.proofs.laws.nothing_asked_changes_nothing.Goals as goal

pub returns : goal.returns
returns c = record { items = nothing_new; broken = nothing_broken }
