use Rattle.mail_cycle.proofs.Left.{shown_still}
use Rattle.mail_cycle.proofs.laws.answers_that_are_shown_hold.Goals as goal

pub returns : goal.returns
returns c = shown_still
