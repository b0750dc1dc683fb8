use Rattle.withdraw.proofs.Back.{front_back}
use Rattle.withdraw.proofs.Shown.{front_stays}
use Rattle.withdraw.proofs.laws.the_front_stays.Goals as goal

pub returns : goal.returns
returns c = record { front = front_back; enough = front_stays }
