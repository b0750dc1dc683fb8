use Rattle.mail_cycle.proofs.Left.{left_few, left_length}
use Rattle.mail_cycle.proofs.laws.timelines_have_their_length.Goals as goal

pub returns : goal.returns
returns c = record { items = left_length; notices = left_few }
