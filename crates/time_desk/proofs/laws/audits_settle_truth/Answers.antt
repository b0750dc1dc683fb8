use Rattle.time_desk.proofs.Audits.{audit_settles}
use Rattle.time_desk.proofs.laws.audits_settle_truth.Goals as goal

pub returns : goal.returns
returns c = λ records kept is. audit_settles records kept is
