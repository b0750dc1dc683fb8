use Rattle.repair_desk.proofs.Extended.{itself, transitive}
use Rattle.repair_desk.proofs.laws.extending_goes_on.Goals as goal

pub returns : goal.returns
returns c = record { itself = itself; transitive = transitive }
