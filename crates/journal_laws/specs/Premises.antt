-- The premises of what is said of a desk over its disk, in one record with a name.
use Rattle.std.specs.Prelude.{◌≡◌, ◌⊎◌, List, Some}
use Rattle.undo_outside.specs.Disk.{DiskTold}
use Rattle.verb_bytes.specs.declared.journal.JournalRecord.{JournalRecord}
use Rattle.desk_journal.specs.Lasting.{Lasting}
use Rattle.desk_journal.specs.Records.{state}
use Rattle.desk_journal.specs.Sealing.{ReadNoTexts, Seals}
use Rattle.desk_journal.specs.Stored.{HoldsTexts}

-- From old to new a desk sealed records behind these, which leave what it kept at first, and then the sealing of one more, or of none, failed. Its texts
-- lay on the disk as they were noted, or none was read for what was sealed.
pub record IsDeskRun {D : Type 0} (told : D → DiskTold) (records added failed : List JournalRecord) (old new : Lasting D) : Type 0 where
  pub began : state records ≡ Some old.kept
  pub texts : HoldsTexts told old ⊎ ReadNoTexts added
  pub seals : Seals told added failed old new
