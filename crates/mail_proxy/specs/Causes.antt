-- When each status of `run` comes, and what is written then.
use Rattle.std.specs.Prelude.{◌≡◌, ◌≢◌, ◌<◌, ◌≤◌, ◌⊎◌, ℕ, ◌^◌, true, false, List, [], ◌++◌, codes, length, MatchBool, nat_lt, Option, None, Some, is_some, Result, Ok, Err}
use Rattle.std.specs.List.{AllByRecursion}
use Rattle.undo_outside.specs.declared.event.Event.{Event}
use Rattle.undo_outside.specs.declared.event.LinkNote.{LinkNote}
use Rattle.undo_outside.specs.Calls.{LinkTold, Rose, SourceTold, SinkTold}
use Rattle.undo_outside.specs.Disk.{DiskTold, ReadFailed, WriteFailed}
use Rattle.seal_log.specs.Journal.{IsPayload}
use Rattle.seal_log.specs.Loading.{IsNotFormatted}
use Rattle.verb_bytes.specs.declared.journal.JournalRecord.{JournalRecord}
use Rattle.store_kept.specs.Kept.{Kept}
use Rattle.repair_desk.specs.Repairs.{position}
use Rattle.cycle_rules.specs.Cutting.{cut}
use Rattle.base_cut.specs.Cutting.{IsUnfinished, closed_journal}
use Rattle.verb_core.specs.declared.conf.Conf.{Conf}
use Rattle.verb_core.specs.declared.conf.House.{House}
use Rattle.mail_loop.specs.declared.serve.ServeFault.{ServeFault}
use Rattle.mail_loop.specs.declared.serve.ServeFault.TheVariants.{Link, Disk, Turns, NoMemory}
use Rattle.mail_loop.specs.Serving.{Step, CountsFaults, ServedOver}
use Rattle.script_link.specs.Script.{script_of}
use Rattle.script_link.specs.Transcript.{transcript_of}
use Rattle.desk_journal.specs.declared.fault.MakeFault.TheVariants as make
use Rattle.time_desk.specs.declared.fault.StartFault.TheVariants as start
use Rattle.desk_journal.specs.Founding.{cut_records}
use Rattle.desk_journal.specs.Making.{Makes}
use Rattle.desk_journal.specs.Records.{StandsForRecords, are_true, payloads_of}
use Rattle.time_desk.specs.Auditing.{false_record}
use Rattle.time_desk.specs.Opening.{IsDamaged, OpensAs, Starts}
use Rattle.command_words.specs.declared.commands.Command.{Command}
use Rattle.command_words.specs.declared.commands.Command.TheVariants.{Cut, Audit}
use Rattle.mail_proxy.specs.Cutting.{RunsOutOfMemoryBegun}
use Rattle.mail_proxy.specs.Init.{IsNoConfig}
use Rattle.mail_proxy.specs.Profiles.{TextUse, DeskUse, NoText, Configuration, EventScript, NoDesk, Formatted, Opened, Begun, profile_of, reads_on, takes_script, opens, serves, uses_link, uses_text, writes_more}
use Rattle.mail_proxy.specs.Lines.{usage, too_long, bad_configuration, bad_line, not_empty, not_a_store, link_fault, disk_fault, read_fault, too_many, no_memory, damaged, no_such_point, false_record_at, lf}
use Rattle.base_cut.specs.Writing.{SinkTook, WriteFails, WriteRunsOutOfMemory, Wrote}
use Rattle.mail_proxy.specs.Reading.{ReadFails}
use Rattle.mail_proxy.specs.Script.{Played, opening}
use Rattle.mail_proxy.specs.Texts.{IsText}

-- what the objects of the outside tell
pub record Outside : Type 1 where
  pub text : SourceTold
  pub link : LinkTold
  pub disk : DiskTold
  pub out : SinkTold

-- ---- causes

abbrev pub IsBadScript : Result (List Event) ℕ → List ℕ → Type 0
IsBadScript (Ok events) line = ⊥
IsBadScript (Err n) line = line ≡ bad_line n

-- a text of this use that is not too long is in no grammar of it, and this is said of it
abbrev pub IsBadUse : TextUse → List ℕ → List ℕ → Type 0
IsBadUse NoText text line = ⊥
IsBadUse Configuration text line = IsNoConfig text × (line ≡ bad_configuration)
IsBadUse EventScript text line = IsBadScript (script_of text) line

-- it is bad for the command
abbrev pub IsBadFor : Option Command → List ℕ → List ℕ → Type 0
IsBadFor command = IsBadUse (profile_of command).text

-- the text is in no grammar of the command, and this is said of it: it is too long, or it is bad
abbrev pub IsBadText : Option Command → List ℕ → List ℕ → Type 0
IsBadText command text line = MatchBool (nat_lt 67108864 (length text)) ((uses_text command ≡ true) × (line ≡ too_long)) (IsBadFor command text line)

-- a disk is not such as it is wanted for this use, and this is said of it
abbrev pub IsWrongFor : DeskUse → DiskTold → List ℕ → Type 0
IsWrongFor NoDesk disk line = ⊥
IsWrongFor Formatted disk line = (disk.size ≢ 0) × (line ≡ not_empty)
IsWrongFor Opened disk line = (disk.honest → IsNotFormatted disk.content) × (line ≡ not_a_store)
IsWrongFor Begun disk line = ⊥

-- the disk is not such as the command wants it
abbrev pub IsWrongDisk : Option Command → DiskTold → List ℕ → Type 0
IsWrongDisk command = IsWrongFor (profile_of command).desk

-- the text, as far as it is told, is a script of these events
pub record IsScript (told : Option (List ℕ)) (events : List Event) : Type 0 where
  pub text : List ℕ
  pub is_text : IsText told text
  pub short : nat_lt 67108864 (length text) ≡ false
  pub events_are : script_of text ≡ Ok events

-- the disk is not empty, and an honest one opens as this
abbrev pub IsOpened : DiskTold → Kept → Type 0
IsOpened disk first = (disk.size ≢ 0) × (disk.honest → OpensAs disk.content (Ok first))

-- what a desk of this use keeps at first: what the disk opens as, or what a house of the program's own begins with
abbrev pub IsFirstOf : DeskUse → DiskTold → Kept → Type 0
IsFirstOf NoDesk disk first = ⊥
IsFirstOf Formatted disk first = ⊥
IsFirstOf Opened disk first = IsOpened disk first
IsFirstOf Begun disk first = first ≡ opening

-- what the desk of the command keeps at first
abbrev pub IsFirst : Option Command → DiskTold → Kept → Type 0
IsFirst command = IsFirstOf (profile_of command).desk

-- there was a desk
abbrev pub HasDesk : Option Command → DiskTold → Type 0
HasDesk command disk = (first : Kept) × IsFirst command disk first

-- the events of the script were served over what the desk kept at first, and came out so, with this transcript
pub record RanTo (command : Option Command) (told : Option (List ℕ)) (disk : DiskTold) (outcome : Result (Unit {0}) ServeFault) (transcript : List ℕ) : Type 0 where
  pub takes : takes_script command ≡ true
  pub events : List Event
  pub script : IsScript told events
  pub first : Kept
  pub is_first : IsFirst command disk first
  pub notes : List LinkNote
  pub steps : List Step
  pub last : Kept
  pub played : Played first events outcome notes steps last
  pub transcript_is : transcript ≡ transcript_of notes

-- before the last line nothing stands, or the transcript of a script whose serving came out so
abbrev pub IsFront : Option Command → Option (List ℕ) → DiskTold → Result (Unit {0}) ServeFault → List ℕ → Type 0
IsFront command told disk outcome front = (front ≡ []) ⊎ RanTo command told disk outcome front

-- formatting or opening failed, as these say
abbrev pub FailsFor : DeskUse → DiskTold → DiskTold → Type 0
FailsFor NoDesk old new = ⊥
FailsFor Formatted old new = (house : House) × (conf : Conf) × Makes house conf old new (Err make.Disk)
FailsFor Opened old new = Starts old new (Err start.Disk)
FailsFor Begun old new = ⊥

-- that was so, and no event came of a link that the command uses
abbrev pub FailsAtFirst : Option Command → Outside → Outside → Type 0
FailsAtFirst command old new =
    MatchBool (uses_link command) (FailsFor (profile_of command).desk old.disk new.disk × (new.link ≡ old.link)) (FailsFor (profile_of command).desk old.disk new.disk)

-- the records that the image stands for are true
pub record AreTrueIn (image : List ℕ) : Type 0 where
  pub records : List JournalRecord
  pub stands : StandsForRecords records image
  pub are : are_true records ≡ true

-- of the records that the image stands for the first that is not true has its gate at this place
pub record IsFalseAt (image : List ℕ) (place : ℕ) : Type 0 where
  pub records : List JournalRecord
  pub stands : StandsForRecords records image
  pub is : false_record records ≡ Some place

-- 2^40 events of the link were served without an end
pub record RanOn (command : Option Command) (disk : DiskTold) (link link' : LinkTold) : Type 0 where
  pub first : Kept
  pub is_first : IsFirst command disk first
  pub notes : List LinkNote
  pub steps : List Step
  pub last : Kept
  pub over : ServedOver (2 ^ 40) steps notes link link' first last (Err Turns)

-- ---- what each status says of a command and of the outside before it and after it

-- The count of failed reads is as it was. Where events were served it may have risen: a turn that could not read a text tells so, and serving goes on.
abbrev pub CountsReads : Option Command → DiskTold → DiskTold → Type 0
CountsReads command old new = MatchBool (serves command) (old.failed_reads ≤ new.failed_reads) (new.failed_reads ≡ old.failed_reads)

-- What a cut of the store that was opened is, at a point that it has: a journal of payloads. Of an honest disk, they are those of the
-- records of what was kept, cut there.
pub record IsCut (disk : DiskTold) (point : ℕ) (bytes : List ℕ) : Type 0 where
  pub first : Kept
  pub is_opened : IsOpened disk first
  pub place : ℕ
  pub place_is : position first.timeline point ≡ Some place
  pub payloads : List (List ℕ)
  pub bytes_are : bytes ≡ closed_journal payloads
  pub exact : disk.honest → payloads ≡ payloads_of (cut_records first place)

-- the cut was written whole: each of its payloads has a frame, and that of an honest disk opens as what was kept, cut at the point
abbrev pub CutWell : Outside → Outside → ℕ → Type 0
CutWell old new point =
    (bytes : List ℕ) × (is : IsCut old.disk point bytes) × SinkTook old.out new.out bytes × AllByRecursion IsPayload is.payloads
    × (old.disk.honest → OpensAs bytes (Ok (cut is.first is.place)))

-- a store was opened, the records of an honest disk are true, and it was told so
abbrev pub AuditedWell : Outside → Outside → Type 0
AuditedWell old new = HasDesk (Some Audit) old.disk × (old.disk.honest → AreTrueIn old.disk.content) × SinkTook old.out new.out (codes "true" ++ lf)

-- a store that was cut was cut well, and an audit ended well
abbrev pub ReadWell : Option Command → Outside → Outside → Type 0
ReadWell (Some (Cut point)) old new = CutWell old new point
ReadWell (Some Audit) old new = AuditedWell old new
ReadWell other old new = Unit {0}

-- a first part of the cut was written, which was begun and is no journal
abbrev pub CutShort : Outside → Outside → ℕ → Type 0
CutShort old new point =
    (front : List ℕ) × (back : List ℕ) × IsCut old.disk point (front ++ back) × (0 < length front) × (0 < length back) × IsUnfinished front × SinkTook old.out new.out front

-- a store that was cut was cut short, where a text was not read
abbrev pub ReadShort : Option Command → Outside → Outside → Type 0
ReadShort (Some (Cut point)) old new = CutShort old new point
ReadShort other old new = ⊥

-- this was to be written where no fault came before: of a store that is cut the cut
abbrev pub IsOutput : Option Command → Outside → List ℕ → Type 0
IsOutput (Some (Cut point)) old output = IsCut old.disk point output
IsOutput other old output = Unit {0}

-- a first part of this was written up to want of memory; of a cut at least a byte, unless the sink found none
abbrev pub RunsOutOfMemory : Option Command → Outside → Outside → List ℕ → Type 0
RunsOutOfMemory (Some (Cut point)) old new output = RunsOutOfMemoryBegun old.out new.out output
RunsOutOfMemory other old new output = WriteRunsOutOfMemory old.out new.out output

module _ (command : Option Command) (old new : Outside) where
  -- a script was served well, so that none of its strings was missed or left out, and its transcript was written whole
  abbrev pub PlayedWell : Type 0
  PlayedWell = (transcript : List ℕ) × RanTo command old.text.left old.disk (Ok tt) transcript × SinkTook old.out new.out transcript

  -- 0: the words are a command, and no read and no write failed, but for reads of texts while events were served. A script was served well, or a
  -- store cut well, or its records are true.
  abbrev pub AllWell : Type 0
  AllWell =
      (is_some command ≡ true) × (new.text.faults ≡ old.text.faults) × CountsReads command old.disk new.disk × (new.disk.failed_writes ≡ old.disk.failed_writes)
      × (new.out.faults ≡ old.out.faults) × (takes_script command ≡ true → PlayedWell) × ReadWell command old new

  -- 1: the words are of no stated shape
  abbrev pub IsMisused : Type 0
  IsMisused = (is_some command ≡ false) × Wrote old.out new.out usage

  -- 2: the text is bad
  abbrev pub EndsBad : Type 0
  EndsBad = (text : List ℕ) × (line : List ℕ) × IsText old.text.left text × IsBadText command text line × Wrote old.out new.out line

  -- 3: the disk is not empty, or holds no store
  abbrev pub EndsWrong : Type 0
  EndsWrong = (line : List ℕ) × IsWrongDisk command old.disk line × Wrote old.out new.out line

  -- 4: a store was opened, and `next` of the link failed
  abbrev pub EndsUnlinked : Type 0
  EndsUnlinked = (uses_link command ≡ true) × HasDesk command old.disk × CountsFaults (Err Link) old.link new.link × Wrote old.out new.out link_fault

  -- 5: formatting or opening failed. Or a store was opened, and then a write or a sync failed, and no other; there the last line may stand behind a
  -- transcript. Or a store was opened that is cut or audited, and then a read failed; there no last line stands behind a first part of a cut.
  abbrev pub EndsFailed : Type 0
  EndsFailed =
      (FailsAtFirst command old new × Wrote old.out new.out disk_fault)
      ⊎ ((serves command ≡ true) × HasDesk command old.disk × WriteFailed old.disk new.disk × (old.disk.failed_reads ≤ new.disk.failed_reads)
      × ((front : List ℕ) × IsFront command old.text.left old.disk (Err Disk) front × Wrote old.out new.out (front ++ disk_fault)))
      ⊎ ((reads_on command ≡ true) × HasDesk command old.disk
      × ((ReadFailed old.disk new.disk × Wrote old.out new.out disk_fault) ⊎ (Rose old.disk.failed_reads new.disk.failed_reads × ReadShort command old new)))

  -- 6: a read of the text failed
  abbrev pub EndsUnread : Type 0
  EndsUnread = (uses_text command ≡ true) × ReadFails old.text new.text × Wrote old.out new.out read_fault

  -- 7: 2^40 events were served without an end; a transcript is left out where no memory is found for it
  abbrev pub EndsLate : Type 0
  EndsLate =
      ((transcript : List ℕ) × RanTo command old.text.left old.disk (Err Turns) transcript
      × (Wrote old.out new.out (transcript ++ too_many) ⊎ Wrote old.out new.out too_many))
      ⊎ ((uses_link command ≡ true) × RanOn command old.disk old.link new.link × Wrote old.out new.out too_many)

  -- 8: the last line is that of want of memory, maybe behind a transcript; or the sink found no memory before that
  abbrev pub EndsOutOfMemory : Type 0
  EndsOutOfMemory =
      (front : List ℕ)
      × ((IsFront command old.text.left old.disk (Err NoMemory) front × Wrote old.out new.out (front ++ no_memory))
      ⊎ (IsOutput command old front × RunsOutOfMemory command old new front))

  -- 9: there was a desk, and a write of the transcript, the counts, the cut or the audit's answer failed
  abbrev pub EndsUnwritten : Type 0
  EndsUnwritten = (writes_more command ≡ true) × HasDesk command old.disk × ((output : List ℕ) × IsOutput command old output × WriteFails old.out new.out output)

  -- 10: an open gate stands at this place, and behind it no record that can stand there
  abbrev pub EndsDamaged : Type 0
  EndsDamaged = (opens command ≡ true) × ((place : ℕ) × (old.disk.honest → IsDamaged old.disk.content place) × Wrote old.out new.out (damaged place))

  -- 11: the store that was opened does not have the point
  abbrev pub EndsPointless : Type 0
  EndsPointless =
      (point : ℕ) × (command ≡ Some (Cut point)) × (first : Kept) × IsOpened old.disk first × (position first.timeline point ≡ None) × Wrote old.out new.out no_such_point

  -- 12: a record of the store that was opened is not true
  abbrev pub EndsUntrue : Type 0
  EndsUntrue = (command ≡ Some Audit) × HasDesk command old.disk × ((place : ℕ) × (old.disk.honest → IsFalseAt old.disk.content place) × Wrote old.out new.out (false_record_at place))

-- When each status comes, and what is written then. No other comes. The link's count rises with status 4 alone.
pub record Comes (command : Option Command) (old new : Outside) (status : ℕ) : Type 0 where
  pub done : status ≡ 0 → AllWell command old new
  pub misused : status ≡ 1 → IsMisused command old new
  pub bad_text : status ≡ 2 → EndsBad command old new
  pub wrong_disk : status ≡ 3 → EndsWrong command old new
  pub link_fault : status ≡ 4 → EndsUnlinked command old new
  pub disk_fault : status ≡ 5 → EndsFailed command old new
  pub read_fault : status ≡ 6 → EndsUnread command old new
  pub too_many : status ≡ 7 → EndsLate command old new
  pub no_memory : status ≡ 8 → EndsOutOfMemory command old new
  pub write_fault : status ≡ 9 → EndsUnwritten command old new
  pub damaged : status ≡ 10 → EndsDamaged command old new
  pub no_point : status ≡ 11 → EndsPointless command old new
  pub false_record : status ≡ 12 → EndsUntrue command old new
  pub no_other : status ≤ 12
  pub link_count : status ≢ 4 → new.link.faults ≡ old.link.faults
