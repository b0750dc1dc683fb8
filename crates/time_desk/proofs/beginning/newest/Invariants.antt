use Rattle.std.proofs.Common.{◌≡◌, ◌≤◌, ℕ, List, drop, length}
use Rattle.seal_log.specs.Settled.{Holds}
use Rattle.desk_journal.specs.Telling.{IsPastRead}
use Rattle.time_desk.specs.Serving.{NoneServes}
use Rattle.desk_journal.specs.Stored.{MarksLie}
use Rattle.time_desk.proofs.beginning.newest.Given as goal

-- each that was looked at was passed over, and nothing was where each snapshot lies where it is marked
abbrev pub invariant-loop-i : goal.invariant-loop-i
invariant-loop-i g l = record {
  still : IsPastRead g.D.Disk.told l.initial.past l.past;
  none : (g.D.Disk.told l.past.disk).failed_reads ≡ (g.D.Disk.told l.initial.past.disk).failed_reads;
  within : l.i ≤ length l.marks;
  passed : (g.D.Disk.told l.initial.past.disk).honest → NoneServes (g.D.Disk.told l.initial.past.disk) l.desk.kept (drop l.i l.marks);
  first : (payloads : List (List ℕ)) → Holds (g.D.Disk.told l.initial.past.disk) payloads → MarksLie payloads l.desk.kept l.marks → l.i ≡ length l.marks;
}
