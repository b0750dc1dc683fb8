use Rattle.std.proofs.Common.{◌≡◌}
use Rattle.desk_journal.specs.Telling.{IsPastRead}
use Rattle.time_desk.proofs.audit.read_each.Given as goal

abbrev pub invariant-loop-place : goal.invariant-loop-place
invariant-loop-place g l = record {
  still : IsPastRead g.D.Disk.told l.fn.past l.past;
  none_failed : (g.D.Disk.told l.past.disk).failed_reads ≡ (g.D.Disk.told l.fn.past.disk).failed_reads;
}
