-- What serving over a store promises, and on which premises: each of these is a record with a name.
use Rattle.std.specs.Prelude.{◌≡◌, ℕ, false, List, ◌++◌, Some, Result, Err}
use Rattle.std.specs.List.{list_any}
use Rattle.undo_outside.specs.declared.event.LinkNote.{LinkNote}
use Rattle.undo_outside.specs.Calls.{LinkTold}
use Rattle.undo_outside.specs.Disk.{DiskTold, Only, WriteFailed}
use Rattle.undo_outside.specs.Moments.{LeavesOnly}
use Rattle.seal_log.specs.Journal.{StandsForFront}
use Rattle.verb_bytes.specs.declared.journal.JournalRecord.{JournalRecord}
use Rattle.store_kept.specs.Kept.{IsRun, Kept}
use Rattle.mail_cycle.specs.Permanence.{UidsLast, UidsStay}
use Rattle.desk_journal.specs.Lasting.{Lasting}
use Rattle.desk_journal.specs.Reading.{Counted, HaveRead}
use Rattle.desk_journal.specs.Records.{StandsForRecords, is_withdrawal, payloads_of, state}
use Rattle.desk_journal.specs.Sealing.{Seals}
use Rattle.desk_journal.specs.Stored.{HoldsTexts}
use Rattle.mail_loop.specs.declared.serve.ServeFault.{ServeFault}
use Rattle.mail_loop.specs.declared.serve.ServeFault.TheVariants.{Disk}
use Rattle.mail_loop.specs.Acknowledged.{AnswersLast, WentThrough}
use Rattle.mail_loop.specs.Serving.{Step, out_of_memory_in, reads_in, unsealed_in}
use Rattle.journal_laws.specs.Keeping.{KeepsMail}

-- ---- the premises

-- The disk is honest: what it tells of its bytes is true. `IsHonest` says how this fits together, and `WritesAt` and `Syncs` what calls do with it.
pub record HonestDisk (disk : DiskTold) : Type 0 where
  pub honest : disk.honest

-- It is honest and rests: nothing waits to be written, as after a restart of the machine. So a crash would leave what reads give.
pub record RestingDisk (disk : DiskTold) : Type 0 where
  pub honest : disk.honest
  pub rests : Only disk.content disk.images

-- The link tells its log: so far it did this.
pub record LinkTellsItsLog (link : LinkTold) : Type 0 where
  pub log : List LinkNote
  pub told : link.log ≡ Some log

-- ---- serving over a desk

-- what is kept at last: the store is what the items in force leave, and no UID names another message or another text than at first
pub record IsKeptWell (first last : Kept) : Type 0 where
  pub runs : IsRun last
  pub uids : UidsLast first last

-- How serving went over a desk, whose steps these are and which came out so: what was sealed, and where what was not sealed is what these steps say.
-- How often a text could not be read or was not the one that was stored, and how many writes found no memory, just as many as these steps say. Which
-- desks serving went through. And what holds of what is kept at last where the disk held the texts, and that no text comes back where no withdrawal
-- was sealed.
pub record ServesDesk {D : Type 0} (told : D → DiskTold) (steps : List Step) (outcome : Result (Unit {0}) ServeFault) (first last : Lasting D) : Type 0 where
  pub added : List JournalRecord
  pub seals : Seals told added (unsealed_in steps first.kept) first last
  pub read : HaveRead told first last (reads_in steps first.kept)
  pub out_of_memory : Counted (out_of_memory_in steps first.kept) (told first.disk).out_of_memory (told last.disk).out_of_memory
  pub disk_fault : outcome ≡ Err Disk → WriteFailed (told first.disk) (told last.disk)
  pub through : WentThrough told steps first last
  pub well : HoldsTexts told first → IsKeptWell first.kept last.kept
  pub stays : HoldsTexts told first → list_any is_withdrawal added ≡ false → UidsStay first.kept last.kept

-- ---- what an honest disk keeps of it

-- What an honest disk stands for: at first for records that leave what the desk kept, and then for these followed by those of the run. The one whose
-- sealing failed may follow. Where the disk rested at first, a crash at any moment since leaves the records at first and the first of those of the
-- run, in order.
pub record Journals (old : DiskTold) (first : Kept) (added failed : List JournalRecord) (new : DiskTold) : Type 0 where
  pub records : List JournalRecord
  pub stands : StandsForRecords records old.content
  pub state_is : state records ≡ Some first
  pub now : (image : List ℕ) → new.images image → StandsForFront (payloads_of (records ++ added)) (payloads_of failed) image
  pub reads : StandsForFront (payloads_of (records ++ added)) (payloads_of failed) new.content
  pub any_moment : RestingDisk old → LeavesOnly old new (StandsForFront (payloads_of records) (payloads_of (added ++ failed)))

-- What lasts of serving over a desk that was opened on an honest disk. It stands for these records. The desk that was opened holds its texts. So what is
-- kept at last is what the records leave, and its store what the items in force leave, and no turn was given another text than was stored. What was
-- answered before a moment is in every image of that moment and of each later one. In every state that the run leaves, at a moment or by a crash, a
-- user, name, UIDVALIDITY and UID name one message and one text. Each message that was given lies there once, or was taken by one item.
pub record IsLasting {D : Type 0} (told : D → DiskTold) (steps : List Step) (outcome : Result (Unit {0}) ServeFault) (first last : Lasting D) (served : ServesDesk told steps outcome first last) (old new : DiskTold) : Type 0 where
  pub journals : Journals old first.kept served.added (unsealed_in steps first.kept) new
  pub texts : HoldsTexts told first
  pub kept : IsKeptWell first.kept last.kept
  pub right : (reads_in steps first.kept).wrong ≡ 0
  pub answers : AnswersLast told journals.records first.kept served.through.0 new
  pub mail : KeepsMail journals.records (served.added ++ unsealed_in steps first.kept)
