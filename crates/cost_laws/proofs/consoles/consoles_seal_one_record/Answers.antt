use Rattle.cost_laws.proofs.Requests.{request_sealed, turn_alone}
use Rattle.cost_laws.proofs.consoles.consoles_seal_one_record.Goals as goal

pub returns-clause-leads : goal.returns-clause-leads
returns-clause-leads g c = λ h at kept stage records right leads. turn_alone h at kept stage right records leads

pub returns-clause-turns : goal.returns-clause-turns
returns-clause-turns g c = λ s old w came bytes went same holds is there. request_sealed g.D.Disk.told s old w went same holds came bytes is there
