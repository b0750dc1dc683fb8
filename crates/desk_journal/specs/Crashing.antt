-- What a crash leaves of a run of calls.
use Rattle.std.specs.Prelude.{◌≡◌, ◌≤◌, ℕ, List, ◌++◌, length, take, Some}
use Rattle.verb_bytes.specs.declared.journal.JournalRecord.{JournalRecord}
use Rattle.store_kept.specs.Kept.{Kept}
use Rattle.desk_journal.specs.Records.{StandsForRecords, state}

-- the image stands for the records from before and the first of the others, and each of them can stand
pub record LeavesFront (records others : List JournalRecord) (image : List ℕ) : Type 0 where
  pub count : ℕ
  pub few : count ≤ length others
  pub stands : StandsForRecords (records ++ take count others) image
  pub kept : Kept
  pub state_is : state (records ++ take count others) ≡ Some kept
