use Rattle.desk_journal.proofs.Runs.{seals_nothing, seals_still, seals_then}
use Rattle.desk_journal.proofs.laws.seals_join.Goals as goal

pub returns-clause-nothing : goal.returns-clause-nothing
returns-clause-nothing g c = seals_nothing g.D.Disk.told g.met.D.Disk.tells_truth

pub returns-clause-still : goal.returns-clause-still
returns-clause-still g c = seals_still g.D.Disk.told

pub returns-clause-then : goal.returns-clause-then
returns-clause-then g c = seals_then g.D.Disk.told
