-- The headline: what it comes to that mail was served to the end over an honest disk.
use Rattle.std.specs.Prelude.{◌≡◌, ℕ, List, ◌++◌, Option, Some}
use Rattle.undo_outside.specs.declared.event.Event.{Event}
use Rattle.undo_outside.specs.declared.event.LinkNote.{LinkNote}
use Rattle.undo_outside.specs.Coming.{with_end}
use Rattle.undo_outside.specs.Disk.{DiskTold}
use Rattle.undo_outside.specs.Moments.{LeavesOnly}
use Rattle.seal_log.specs.Journal.{StandsForFront}
use Rattle.verb_bytes.specs.declared.journal.JournalRecord.{JournalRecord}
use Rattle.store_kept.specs.Kept.{Kept}
use Rattle.desk_journal.specs.Records.{StandsForRecords, payloads_of, state}
use Rattle.mail_loop.specs.Serving.{ComeInOrder, Ends, Step, at_first, events_of, run}
use Rattle.script_link.specs.Transcript.{transcript_of}
use Rattle.journal_laws.specs.Keeping.{KeepsMail}
use Rattle.base_cut.specs.Writing.{SinkTook}
use Rattle.command_words.specs.declared.commands.Command.{Command}
use Rattle.command_words.specs.declared.commands.Command.TheVariants.{Serve, Script}
use Rattle.mail_proxy.specs.Causes.{IsScript, Outside}
use Rattle.mail_proxy.specs.Promises.{IsKeptWell, LinkTellsItsLog, RestingDisk}
use Rattle.mail_proxy.specs.Script.{AreFirst}

-- A store was served to the end of these events. What lay on the disk are records, which leave what is kept at first. From there the machine takes a
-- step for each event, up to the end, and these are its notes of what is done for the clients. It seals records behind those that lay there, and all
-- of them leave what the machine keeps at last. The disk stands for them all, in order, and so does each image that a crash now may leave. Where it
-- rested at first, a crash at any moment leaves the records at first and the first of the others. The store is at last what the items in force leave,
-- UIDs and texts last, and in every state that the records lead through mail is kept.
pub record ServedToEnd (old new : DiskTold) (events : List Event) (notes : List LinkNote) : Type 0 where
  pub records : List JournalRecord
  pub stood : StandsForRecords records old.content
  pub first : Kept
  pub first_is : state records ≡ Some first
  pub steps : List Step
  pub events_are : events ≡ events_of steps
  pub ends : Ends steps first
  pub notes_are : notes ≡ (run steps (at_first first)).notes
  pub added : List JournalRecord
  pub last : Kept
  pub last_is : last ≡ (run steps (at_first first)).state.kept
  pub leave : state (records ++ added) ≡ Some last
  pub stands : StandsForRecords (records ++ added) new.content
  pub now : (image : List ℕ) → new.images image → StandsForRecords (records ++ added) image
  pub any_moment : RestingDisk old → LeavesOnly old new (StandsForFront (payloads_of records) (payloads_of added))
  pub kept : IsKeptWell first last
  pub mail : KeepsMail records added

-- `serve`: the events are those that came, in order, as far as the link tells which were to come. What a link did that tells its log is what the
-- machine notes.
pub record ServedLink (old new : Outside) : Type 0 where
  pub events : List Event
  pub notes : List LinkNote
  pub served : ServedToEnd old.disk new.disk events notes
  pub came : ComeInOrder old.link.coming events new.link.coming
  pub did : (tells : LinkTellsItsLog old.link) → new.link.log ≡ Some (tells.log ++ notes)

-- `script`: the events are those of the script, or the first of them, and then the end. The transcript of what the machine notes was written whole.
pub record ServedScript (old new : Outside) : Type 0 where
  pub script : List Event
  pub is_script : IsScript old.text.left script
  pub events : List Event
  pub are_first : AreFirst events (with_end 0 script)
  pub notes : List LinkNote
  pub served : ServedToEnd old.disk new.disk events notes
  pub wrote : SinkTook old.out new.out (transcript_of notes)

-- what a command that served a store comes to; of the others `Does` says all
abbrev pub IsServed : Option Command → Outside → Outside → Type 0
IsServed (Some (Serve smtp imap http pop)) old new = ServedLink old new
IsServed (Some Script) old new = ServedScript old new
IsServed other old new = Unit {0}
