use Rattle.desk_journal.proofs.Turns.{none_have, once_failed, once_wrong, then_read}
use Rattle.desk_journal.proofs.laws.turns_have_read.Goals as goal

pub returns-clause-none : goal.returns-clause-none
returns-clause-none g c = none_have g.D.Disk.told

pub returns-clause-once : goal.returns-clause-once
returns-clause-once g c = once_failed g.D.Disk.told

pub returns-clause-wrong : goal.returns-clause-wrong
returns-clause-wrong g c = once_wrong g.D.Disk.told

pub returns-clause-then : goal.returns-clause-then
returns-clause-then g c = then_read g.D.Disk.told
