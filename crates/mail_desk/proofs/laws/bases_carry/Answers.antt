use Rattle.mail_desk.proofs.Bases.{base_goes_on, base_stays}
use Rattle.mail_desk.proofs.Desks.{base_opening}
use Rattle.mail_desk.proofs.Going.{base_known}
use Rattle.mail_desk.proofs.laws.bases_carry.Goals as goal

pub returns-clause-opening : goal.returns-clause-opening
returns-clause-opening c = base_opening

pub returns-clause-item : goal.returns-clause-item
returns-clause-item c = base_goes_on

pub returns-clause-other : goal.returns-clause-other
returns-clause-other c = base_stays

pub returns-clause-texts : goal.returns-clause-texts
returns-clause-texts c = base_known
