-- What the command `cut` writes.
use Rattle.std.specs.Prelude.{◌≡◌, ◌⊎◌, ◌<◌, ℕ, List, ◌++◌, length, None, Some, IsTrue}
use Rattle.std.specs.List.{AllByRecursion}
use Rattle.undo_outside.specs.Calls.{Rose, SinkTold, WantsToWrite}
use Rattle.undo_outside.specs.Disk.{DiskTold, ReadFailed}
use Rattle.seal_log.specs.Journal.{IsPayload}
use Rattle.repair_desk.specs.Repairs.{position}
use Rattle.desk_journal.specs.Lasting.{Lasting}
use Rattle.desk_journal.specs.Reading.{IsStill, ReadsWell}
use Rattle.desk_journal.specs.Records.{payloads_of}
use Rattle.desk_journal.specs.Founding.{cut_records}
use Rattle.base_cut.specs.declared.fault.CutFault.{CutFault}
use Rattle.base_cut.specs.declared.fault.CutFault.TheVariants as cut
use Rattle.base_cut.specs.declared.parts.CutParts.{CutParts}
use Rattle.base_cut.specs.Cutting.{AreCut, IsUnfinished, closed_journal}
use Rattle.base_cut.specs.Writing.{SinkTook}
use Rattle.time_desk.specs.declared.fault.CycleFault.{CycleFault}
use Rattle.time_desk.specs.declared.fault.CycleFault.TheVariants.{Point, Numbers, Disk, NoMemory, Closed}
use Rattle.time_desk.specs.Lending.{desk_told}
use Rattle.time_desk.specs.Replaying.{cut_reads}
use Rattle.cut_laws.specs.Cuts.{CanBeWritten}
use Rattle.mail_proxy.specs.Check.{IsOnlyRead}
use Rattle.mail_proxy.specs.Lines.{disk_fault, no_memory, no_such_point}
use Rattle.mail_proxy.specs.Opening.{Opens}
use Rattle.mail_proxy.specs.Shows.{Shows}
use Rattle.mail_proxy.specs.Texts.{End}

-- a read failed, and this is told of it
abbrev pub TellsFault : ℕ → List ℕ → Type 0
TellsFault status output = (status ≡ 5) × (output ≡ disk_fault)

-- no memory was found, and this is told of it
abbrev pub TellsWant : ℕ → List ℕ → Type 0
TellsWant status output = (status ≡ 8) × (output ≡ no_memory)

-- what is told where nothing was written of a cut, which has no other reason
abbrev pub TellsUncut : CycleFault → ℕ → List ℕ → Type 0
TellsUncut (Point given) status output = (status ≡ 11) × (output ≡ no_such_point)
TellsUncut (Numbers next) status output = ⊥
TellsUncut Disk status output = TellsFault status output
TellsUncut NoMemory status output = TellsWant status output
TellsUncut Closed status output = ⊥

abbrev pub IsUncut : CycleFault → Type 0
IsUncut (Point given) = Unit {0}
IsUncut (Numbers next) = ⊥
IsUncut Disk = Unit {0}
IsUncut NoMemory = Unit {0}
IsUncut Closed = ⊥

-- the status where a cut was not written whole
abbrev pub cut_status : CutFault → ℕ
cut_status cut.Read = 5
cut_status cut.Sink = 9
cut_status cut.NoMemory = 8

-- The sink took a first part of this, and not all. Then a write found no memory, and there was no write after it; or some bytes were
-- written, and no memory was found for what was next.
abbrev pub RunsOutOfMemoryBegun : SinkTold → SinkTold → List ℕ → Type 0
RunsOutOfMemoryBegun old new bytes =
    (front : List ℕ) × (back : List ℕ) × (bytes ≡ front ++ back) × (0 < length back) × (before : SinkTold) × SinkTook old before front
    × (WantsToWrite before new ⊎ ((new ≡ before) × (0 < length front)))

-- with this status a journal of these payloads was to be written: with 0 each payload has a frame, and with 8 it was begun unless the sink
-- found no memory
abbrev pub WritesJournal : List (List ℕ) → ℕ → SinkTold → SinkTold → Type 0
WritesJournal payloads status old new = (status ≡ 0 → AllByRecursion IsPayload payloads) × (status ≡ 8 → RunsOutOfMemoryBegun old new (closed_journal payloads))

-- these are a first part of a journal of these payloads, which was begun, and no journal
pub record IsShort (payloads : List (List ℕ)) (bytes : List ℕ) : Type 0 where
  pub back : List ℕ
  pub split : closed_journal payloads ≡ bytes ++ back
  pub some : 0 < length back
  pub begun : 0 < length bytes
  pub unfinished : IsUnfinished bytes

module _ {D : Type 0} (told : D → DiskTold) where
  -- The payloads of a cut of what is kept, at a point that it has, with the texts that were read. Where these were as they were stored,
  -- they are the bytes of the records of what is kept, cut at the point. These can be written: their journal opens as the cut, where
  -- each payload has a frame.
  pub record IsCutOf (stored : Type 0) (first : Lasting D) (point : ℕ) (payloads : List (List ℕ)) : Type 0 where
    pub place : ℕ
    pub place_is : position first.kept.timeline point ≡ Some place
    pub parts : CutParts
    pub are : AreCut (desk_told told first) parts payloads
    pub exact : stored → payloads ≡ payloads_of (cut_records first.kept place)
    pub can : stored → AllByRecursion IsPayload payloads → CanBeWritten first.kept place

  -- what is kept does not have the point
  abbrev pub HasNoPoint : Lasting D → ℕ → ℕ → List ℕ → Type 0
  HasNoPoint first point status output = (position first.kept.timeline point ≡ None) × (status ≡ 11) × (output ≡ no_such_point)

  -- the cut is to be written whole, and came to this status
  abbrev pub IsCutWhole : Type 0 → Lasting D → ℕ → ℕ → List ℕ → ℕ → SinkTold → SinkTold → Type 0
  IsCutWhole stored first point status output shown out out' =
      (payloads : List (List ℕ)) × IsCutOf stored first point payloads × (status ≡ 0) × (output ≡ closed_journal payloads) × WritesJournal payloads shown out out'

  -- a text was not read, and a first part of the cut was written, and no last line
  abbrev pub IsCutShort : Type 0 → Lasting D → ℕ → ℕ → List ℕ → SinkTold → SinkTold → Type 0
  IsCutShort stored first point status output out out' =
      (payloads : List (List ℕ)) × IsCutOf stored first point payloads × (status ≡ 5) × IsShort payloads output × SinkTook out out' output

  -- a read of the disk failed
  abbrev pub ReadRose : Lasting D → Lasting D → Type 0
  ReadRose first last = Rose (told first.disk).failed_reads (told last.disk).failed_reads

  -- How a cut of a desk ended, with this status: no read failed; or one did, and the disk counted it. Before a byte was written that was
  -- one of a cut for which something is to be read.
  abbrev pub CutsAt : Type 0 → ℕ → Lasting D → Lasting D → ℕ → List ℕ → ℕ → SinkTold → SinkTold → Type 0
  CutsAt stored point first last status output shown out out' =
      (ReadsWell told first last × (HasNoPoint first point status output ⊎ IsCutWhole stored first point status output shown out out' ⊎ TellsWant status output))
      ⊎ ((IsTrue (cut_reads first.kept point) × ReadFailed (told first.disk) (told last.disk) × TellsFault status output)
      ⊎ (ReadRose first last × IsCutShort stored first point status output out out'))

  -- how its writing ended: what is written is the cut or a first part of it
  abbrev pub WritesParts : Lasting D → Lasting D → List (List ℕ) → ℕ → SinkTold → SinkTold → Type 0
  WritesParts old new payloads status out out' =
      (ReadsWell told old new × Shows 0 (closed_journal payloads) status out out' × WritesJournal payloads status out out')
      ⊎ (ReadRose old new × (status ≡ 5) × ((front : List ℕ) × IsShort payloads front × SinkTook out out' front))

  -- a store that was opened is cut at a point; of its disk nothing changes but what reading leaves
  abbrev pub CutsOpened : D → ℕ → ℕ → SinkTold → SinkTold → Lasting D → End D → Type 0
  CutsOpened disk point shown out out' first end =
      (last : Lasting D) × IsStill told first last × (end.disk ≡ last.disk) × CutsAt (told disk).honest point first last end.status end.output shown out out'

  -- what `cut` comes to, where this is its status and what became of the sink
  abbrev pub Cuts : D → ℕ → ℕ → SinkTold → SinkTold → End D → Type 0
  Cuts disk point shown out out' end = Opens told disk (CutsOpened disk point shown out out') end × ((told disk).honest → IsOnlyRead end.status (told disk) (told end.disk))
