use Rattle.cost_laws.proofs.Sealed.{sealed_few, snapshots_few}
use Rattle.cost_laws.proofs.items.events_seal_few_records.Goals as goal

pub returns-clause-turns : goal.returns-clause-turns
returns-clause-turns g c = λ s old w seat bytes went same holds is there mail served. sealed_few g.D.Disk.told s old w went same holds seat bytes is there mail served

pub returns-clause-snapshot : goal.returns-clause-snapshot
returns-clause-snapshot g c = λ s old w went same holds is. snapshots_few g.D.Disk.told s old w went same holds is
