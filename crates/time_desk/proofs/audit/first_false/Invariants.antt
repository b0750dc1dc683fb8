use Rattle.std.proofs.Common.{◌≡◌, ◌++◌, List, ℕ, Some, length}
use Rattle.verb_bytes.specs.declared.journal.JournalRecord.{JournalRecord}
use Rattle.seal_log.specs.Journal.{sealed}
use Rattle.seal_log.specs.Loading.{places_from}
use Rattle.store_kept.specs.Kept.{Kept}
use Rattle.desk_journal.specs.Records.{after_records, payloads_of}
use Rattle.desk_journal.specs.Stored.{AreNoted, TextsHeld}
use Rattle.desk_journal.specs.Telling.{IsPastRead}
use Rattle.time_desk.specs.Auditing.{LeadsUnread}
use Rattle.time_desk.proofs.Judging.{Left}
use Rattle.time_desk.proofs.Unread.{LeftUnread}
use Rattle.time_desk.proofs.audit.first_false.Given as goal

abbrev pub invariant-loop-place : goal.invariant-loop-place
invariant-loop-place g l = record {
  still : IsPastRead g.D.Disk.told l.fn.past l.past;
  none_failed : (g.D.Disk.told l.past.disk).failed_reads ≡ (g.D.Disk.told l.fn.past.disk).failed_reads;
  left : (before : List (List ℕ)) (records : List JournalRecord) (kept : Kept) → TextsHeld (g.D.Disk.told l.fn.past.disk) (before ++ payloads_of records) l.fn.desk.kept l.fn.desk.notes l.fn.desk.marks
      → l.places ≡ places_from (length (sealed before)) (payloads_of records) → after_records l.fn.desk.kept records ≡ Some kept
      → Left (before ++ payloads_of records) l.places l.place-index l.fn.desk.kept l.desk.kept kept (length (sealed before)) records;
  texts : (before : List (List ℕ)) (records : List JournalRecord) (kept : Kept) → TextsHeld (g.D.Disk.told l.fn.past.disk) (before ++ payloads_of records) l.fn.desk.kept l.fn.desk.notes l.fn.desk.marks
      → l.places ≡ places_from (length (sealed before)) (payloads_of records) → after_records l.fn.desk.kept records ≡ Some kept
      → TextsHeld (g.D.Disk.told l.past.disk) (before ++ payloads_of records) l.desk.kept l.desk.notes l.desk.marks;
  left_unread : (before payloads : List (List ℕ)) (records : List JournalRecord) → TextsHeld (g.D.Disk.told l.fn.past.disk) (before ++ payloads) l.fn.desk.kept l.fn.desk.notes l.fn.desk.marks
      → l.places ≡ places_from (length (sealed before)) payloads → (u : LeadsUnread l.fn.desk.kept payloads records)
      → LeftUnread (before ++ payloads) l.places l.place-index l.fn.desk.kept l.desk.kept (length (sealed before)) records u.2.payload (length (sealed (before ++ payloads_of records)));
  texts_unread : (before payloads : List (List ℕ)) (records : List JournalRecord) → TextsHeld (g.D.Disk.told l.fn.past.disk) (before ++ payloads) l.fn.desk.kept l.fn.desk.notes l.fn.desk.marks
      → l.places ≡ places_from (length (sealed before)) payloads → LeadsUnread l.fn.desk.kept payloads records
      → TextsHeld (g.D.Disk.told l.past.disk) (before ++ payloads) l.desk.kept l.desk.notes l.desk.marks;
  noted : AreNoted l.past.end l.desk;
}
