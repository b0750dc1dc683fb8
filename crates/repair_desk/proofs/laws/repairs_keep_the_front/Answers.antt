use Rattle.repair_desk.proofs.Points.{within, front}
use Rattle.repair_desk.proofs.laws.repairs_keep_the_front.Goals as goal

pub returns : goal.returns
returns c = record { within = within; front = front }
