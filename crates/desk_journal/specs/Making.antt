-- What becomes of a disk on which a journal is to be made.
use Rattle.std.specs.Prelude.{◌≡◌, ◌≢◌, ◌⊎◌, ◌<◌, ℕ, false, List, [], ◌∷◌, ◌++◌, Some, Result, Ok, Err}
use Rattle.undo_outside.specs.Disk.{DiskTold, IsLook, ReadFailed, WriteFailed, WriteOutOfMemory}
use Rattle.verb_core.specs.declared.conf.Conf.{Conf}
use Rattle.verb_core.specs.declared.conf.House.{House}
use Rattle.verb_bytes.specs.declared.journal.JournalRecord.TheVariants.{Format}
use Rattle.verb_bytes.specs.Spelling.{record_bytes}
use Rattle.seal_log.specs.Causes.{FindsMemory, SameCounts}
use Rattle.seal_log.specs.Journal.{frame}
use Rattle.seal_log.specs.declared.log.Log.{Log}
use Rattle.seal_log.specs.Log.{last_gate}
use Rattle.seal_log.specs.Settled.{IsSettled, LeavesNoJournal}
use Rattle.store_kept.specs.Kept.{Kept}
use Rattle.desk_journal.specs.declared.fault.MakeFault.{MakeFault}
use Rattle.desk_journal.specs.declared.fault.MakeFault.TheVariants.{NotEmpty, Disk, NoMemory}
use Rattle.desk_journal.specs.Records.{payloads_of, state}

-- no call failed, and whether calls may fail is as it was
abbrev pub SameFaults : DiskTold → DiskTold → Type 0
SameFaults old new = SameCounts old new × (new.is_reliable ≡ old.is_reliable)

-- no memory was found: the disk was only looked at; or the last write that was made found none, and no other, and there is no
-- journal that was not there before
abbrev pub FindsNone : DiskTold → DiskTold → Type 0
FindsNone old new = (IsLook old new × FindsMemory old new) ⊎ (WriteOutOfMemory old new × (old.honest → LeavesNoJournal old new))

-- The disk was empty. It has one record and the gates around it, and the record leaves what is kept.
pub record IsMade (house : House) (conf : Conf) (old new : DiskTold) (kept : Kept) (gate : ℕ) : Type 0 where
  pub empty : old.size ≡ 0
  pub state_is : state (Format house conf ∷ []) ≡ Some kept
  pub written : old.honest → new.content ≡ 85 ∷ (frame (record_bytes (Format house conf)) ++ 0 ∷ [])
  pub settled : old.honest → IsSettled new gate (payloads_of (Format house conf ∷ []))
  pub faults : SameFaults old new
  pub finds_memory : FindsMemory old new

-- what is made, with its last gate; or the disk is not empty, and it is as it was; or a call failed; or no memory was found
-- for an empty disk
abbrev pub Makes : House → Conf → DiskTold → DiskTold → Result (Kept × ℕ) MakeFault → Type 0
Makes house conf old new (Ok made) = IsMade house conf old new made.0 made.1
Makes house conf old new (Err NotEmpty) = (old.size ≢ 0) × IsLook old new × (SameFaults old new × FindsMemory old new)
Makes house conf old new (Err Disk) = ((ReadFailed old new × IsLook old new) ⊎ ((old.size ≡ 0) × WriteFailed old new)) × FindsMemory old new
Makes house conf old new (Err NoMemory) = (old.size ≡ 0) × SameFaults old new × FindsNone old new

-- ---- its parts

-- a look at the length: whether it is 0, or the call failed
abbrev pub LooksEmpty : DiskTold → DiskTold → Result (Unit {0}) MakeFault → Type 0
LooksEmpty old new (Ok x) = (old.size ≡ 0) × IsLook old new × (SameFaults old new × FindsMemory old new)
LooksEmpty old new (Err NotEmpty) = (old.size ≢ 0) × IsLook old new × (SameFaults old new × FindsMemory old new)
LooksEmpty old new (Err Disk) = (ReadFailed old new × IsLook old new) × FindsMemory old new
LooksEmpty old new (Err NoMemory) = ⊥

-- formatted with a first payload
pub record IsBegun (head : List ℕ) (old new : DiskTold) (log : Log) : Type 0 where
  pub open_is : log.closed ≡ false
  pub written : old.honest → new.content ≡ 85 ∷ (frame head ++ 0 ∷ [])
  pub settled : old.honest → IsSettled new (last_gate log) (head ∷ [])
  pub faults : SameFaults old new
  pub finds_memory : FindsMemory old new
  pub within : last_gate log < new.size

-- an empty disk, formatted with a first payload, with its last gate; or a call failed; or it found no memory
abbrev pub BeginsJournal : List ℕ → DiskTold → DiskTold → Result Log MakeFault → Type 0
BeginsJournal head old new (Ok log) = IsBegun head old new log
BeginsJournal head old new (Err NotEmpty) = ⊥
BeginsJournal head old new (Err Disk) = WriteFailed old new × FindsMemory old new
BeginsJournal head old new (Err NoMemory) = SameFaults old new × FindsNone old new
