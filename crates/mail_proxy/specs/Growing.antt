-- What the command `grow` answers and writes.
use Rattle.std.specs.Prelude.{◌≡◌, ◌≢◌, ℕ, List, ◌++◌, codes, Result, Ok, Err}
use Rattle.undo_outside.specs.declared.event.Event.{Event}
use Rattle.undo_outside.specs.declared.event.LinkNote.{LinkNote}
use Rattle.undo_outside.specs.Disk.{DiskTold, WriteFailed}
use Rattle.verb_bytes.specs.declared.journal.JournalRecord.{JournalRecord}
use Rattle.mail_desk.specs.declared.counts.Counts.{Counts}
use Rattle.mail_desk.specs.Counting.{counts_of}
use Rattle.store_kept.specs.Kept.{Kept}
use Rattle.desk_journal.specs.Lasting.{Lasting}
use Rattle.desk_journal.specs.Reading.{HaveRead, none_read}
use Rattle.desk_journal.specs.Sealing.{Seals}
use Rattle.desk_journal.specs.Stored.{HoldsTexts}
use Rattle.mail_loop.specs.declared.serve.ServeFault.{ServeFault}
use Rattle.mail_loop.specs.declared.serve.ServeFault.TheVariants.{Disk}
use Rattle.mail_loop.specs.Serving.{Step, reads_in, unsealed_in}
use Rattle.mail_proxy.specs.Check.{TellsText, count_line, counts_text}
use Rattle.mail_proxy.specs.Generated.{generated}
use Rattle.mail_proxy.specs.Promises.{IsKeptWell}
use Rattle.mail_proxy.specs.Script.{IsPlayedWell, Played, last_line, opening, status_of}
use Rattle.mail_proxy.specs.Texts.{End}

-- how many rounds there were, and the six lines of the counts
abbrev pub grown_text : ℕ → Counts → List ℕ
grown_text rounds counts = count_line (codes "rounds") rounds ++ counts_text counts

-- After the end the counts of what is kept are written. After a fault they are not.
abbrev pub TellsGrown : ℕ → Result (Unit {0}) ServeFault → Kept → ℕ → List ℕ → Type 0
TellsGrown rounds (Ok x) last status output = TellsText (grown_text rounds (counts_of last)) status output
TellsGrown rounds (Err e) last status output = (status ≡ status_of (Err e)) × (output ≡ last_line (Err e))

-- How events were served over a desk: the machine's steps for them, what was sealed, and what is to be answered and written. And what holds of what is kept at last
-- where the disk held the texts.
pub record ServesGenerated {D : Type 0} (told : D → DiskTold) (rounds : ℕ) (events : List Event) (first last : Lasting D) (status : ℕ) (output : List ℕ) : Type 0 where
  pub outcome : Result (Unit {0}) ServeFault
  pub notes : List LinkNote
  pub steps : List Step
  pub added : List JournalRecord
  pub played : Played first.kept events outcome notes steps last.kept
  pub tells : TellsGrown rounds outcome last.kept status output
  pub seals : Seals told added (unsealed_in steps first.kept) first last
  pub read : HaveRead told first last (reads_in steps first.kept)
  pub disk_fault : outcome ≡ Err Disk → WriteFailed (told first.disk) (told last.disk)
  pub well : HoldsTexts told first → IsKeptWell first.kept last.kept

-- The events of so many rounds are served over a store in memory, no call on which fails and of which each text is read as it was stored.
abbrev pub Grows : ℕ → ℕ → List ℕ → Type 0
Grows rounds status output =
    (outcome : Result (Unit {0}) ServeFault) × (notes : List LinkNote) × (steps : List Step) × (last : Kept)
    × Played opening (generated rounds) outcome notes steps last × (outcome ≢ Err Disk) × (reads_in steps opening ≡ none_read) × IsPlayedWell last × TellsGrown rounds outcome last status output

-- what `grow` comes to; the disk gets no call
abbrev pub GrowsBy : {D : Type 0} → ℕ → D → End D → Type 0
GrowsBy rounds disk end = Grows rounds end.status end.output × (end.disk ≡ disk)
