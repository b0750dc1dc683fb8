use Rattle.mail_cycle.proofs.Left.{left_from, left_from_revs}
use Rattle.mail_cycle.proofs.laws.repairs_leave_states.Goals as goal

pub returns : goal.returns
returns c = record { from = left_from; from_revs = left_from_revs }
