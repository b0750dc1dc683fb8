use Rattle.privacy_laws.proofs.Beside.{agree_beside, agree_run, agree_same}
use Rattle.privacy_laws.proofs.Closing.{none_closed}
use Rattle.privacy_laws.proofs.others.others_leave_agreement.Goals as goal

pub returns-clause-one : goal.returns-clause-one
returns-clause-one c house u k l i j agree can other spares spares' = agree_beside house u k l agree i j can other spares spares'

pub returns-clause-mail : goal.returns-clause-mail
returns-clause-mail c house u k l i j agree can other same = agree_same house u k l i j agree can other same

pub returns-clause-runs : goal.returns-clause-runs
returns-clause-runs c house u k l is js agree alike = agree_run house u k l is js agree alike

pub returns-clause-closes : goal.returns-clause-closes
returns-clause-closes c u kept i stream d spares user = none_closed u kept i spares d user stream
