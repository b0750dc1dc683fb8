use Rattle.mail_cycle.proofs.Left.{left_texts}
use Rattle.mail_cycle.proofs.laws.bodies_keep_their_texts.Goals as goal

pub returns : goal.returns
returns c = left_texts
