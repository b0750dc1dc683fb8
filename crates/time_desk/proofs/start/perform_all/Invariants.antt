use Rattle.std.proofs.Common.{◌≡◌, ◌++◌, List, ℕ, length, take}
use Rattle.seal_log.specs.Journal.{sealed}
use Rattle.seal_log.specs.Loading.{places_from}
use Rattle.time_desk.specs.Standing.{LeadsTo}
use Rattle.desk_journal.specs.Stored.{AreNoted, TextsHeld}
use Rattle.desk_journal.specs.Telling.{IsPastRead}
use Rattle.time_desk.proofs.start.perform_all.Given as goal

abbrev pub invariant-loop-place : goal.invariant-loop-place
invariant-loop-place g l = record {
  still : IsPastRead g.D.Disk.told l.fn.past l.past;
  none_failed : (g.D.Disk.told l.past.disk).failed_reads ≡ (g.D.Disk.told l.fn.past.disk).failed_reads;
  led : (before payloads : List (List ℕ)) → TextsHeld (g.D.Disk.told l.fn.past.disk) (before ++ payloads) l.fn.desk.kept l.fn.desk.notes l.fn.desk.marks → l.places ≡ places_from (length (sealed before)) payloads
      → LeadsTo l.fn.desk.kept (take l.place-index payloads) l.desk.kept;
  texts : (before payloads : List (List ℕ)) → TextsHeld (g.D.Disk.told l.fn.past.disk) (before ++ payloads) l.fn.desk.kept l.fn.desk.notes l.fn.desk.marks → l.places ≡ places_from (length (sealed before)) payloads
      → TextsHeld (g.D.Disk.told l.past.disk) (before ++ payloads) l.desk.kept l.desk.notes l.desk.marks;
  noted : AreNoted l.past.end l.desk;
}
