use Rattle.std.proofs.Common.{◌≡◌, ◌++◌, List, ℕ, Some, length}
use Rattle.verb_bytes.specs.declared.journal.JournalRecord.{JournalRecord}
use Rattle.seal_log.specs.Journal.{sealed}
use Rattle.seal_log.specs.Loading.{places_from}
use Rattle.seal_log.specs.Settled.{Holds}
use Rattle.desk_journal.specs.Founding.{fore_of}
use Rattle.desk_journal.specs.Records.{payloads_of}
use Rattle.desk_journal.specs.Telling.{IsPastRead}
use Rattle.time_desk.specs.Fronts.{FoundNoted, FoundStored, IsGrounded, fore_in}
use Rattle.time_desk.proofs.Founding.{IsGoing}
use Rattle.time_desk.proofs.front.go_on.Given as goal

abbrev pub invariant-loop-place : goal.invariant-loop-place
invariant-loop-place g l = record {
  still : IsPastRead g.D.Disk.told l.fn.past l.past;
  none_failed : (g.D.Disk.told l.past.disk).failed_reads ≡ (g.D.Disk.told l.fn.past.disk).failed_reads;
  counted : l.count ≡ l.place-index;
  noted : FoundNoted l.past.end l.founding;
  grounded : IsGrounded l.founding;
  going : (records : List JournalRecord) (payloads : List (List ℕ)) → Holds (g.D.Disk.told l.fn.past.disk) (payloads_of records ++ payloads) → l.places ≡ places_from (length (sealed (payloads_of records))) payloads
      → fore_of records ≡ Some (fore_in l.fn.founding) → IsGoing records payloads l.place-index l.founding;
  stored : (records : List JournalRecord) (payloads : List (List ℕ)) → Holds (g.D.Disk.told l.fn.past.disk) (payloads_of records ++ payloads) → l.places ≡ places_from (length (sealed (payloads_of records))) payloads
      → FoundStored (payloads_of records ++ payloads) l.fn.founding → FoundStored (payloads_of records ++ payloads) l.founding;
}
