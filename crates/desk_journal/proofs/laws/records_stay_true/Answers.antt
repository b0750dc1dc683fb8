use Rattle.desk_journal.proofs.Runs.{crash_stays_true, records_stay_true}
use Rattle.desk_journal.proofs.Truth.{first_true, true_as, true_is}
use Rattle.desk_journal.proofs.laws.records_stay_true.Goals as goal

pub returns-clause-exact : goal.returns-clause-exact
returns-clause-exact g c = λ kept what. (true_is kept what, true_as kept what)

pub returns-clause-made : goal.returns-clause-made
returns-clause-made g c = first_true

pub returns-clause-sealed : goal.returns-clause-sealed
returns-clause-sealed g c = records_stay_true g.D.Disk.told

pub returns-clause-crashed : goal.returns-clause-crashed
returns-clause-crashed g c = crash_stays_true g.D.Disk.told
