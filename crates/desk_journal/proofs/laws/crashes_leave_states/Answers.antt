use Rattle.desk_journal.proofs.Runs.{crash_leaves, seals_state}
use Rattle.desk_journal.proofs.laws.crashes_leave_states.Goals as goal

pub returns-clause-each : goal.returns-clause-each
returns-clause-each g c = crash_leaves g.D.Disk.told

pub returns-clause-sealed : goal.returns-clause-sealed
returns-clause-sealed g c = seals_state g.D.Disk.told
