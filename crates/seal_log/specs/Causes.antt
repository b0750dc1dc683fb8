-- Why calls on a journal fail, by the disk's counts of failures.
use Rattle.std.specs.Prelude.{◌≡◌, ◌⊎◌, ℕ, Result, OnOk, IsErrOf}
use Rattle.undo_outside.specs.declared.fault.Fault.{Fault}
use Rattle.undo_outside.specs.declared.fault.Fault.TheVariants.{Failed, NoMemory}
use Rattle.undo_outside.specs.Disk.{DiskTold, ReadFailed, WriteFailed, WriteOutOfMemory}
use Rattle.seal_log.specs.declared.fault.SealFault.{SealFault}
use Rattle.seal_log.specs.declared.fault.SealFault.TheVariants.{Disk as seal_disk, NoMemory as seal_no_memory, Closed}
use Rattle.seal_log.specs.declared.fault.ReadFault.{ReadFault}
use Rattle.seal_log.specs.declared.fault.ReadFault.TheVariants.{Disk as read_disk, NoMemory as read_no_memory}
use Rattle.seal_log.specs.declared.fault.LoadFault.{LoadFault}
use Rattle.seal_log.specs.declared.fault.LoadFault.TheVariants.{Disk as load_disk, NoMemory as load_no_memory, NotFormatted, Damaged}

-- no call failed
pub record SameCounts (old new : DiskTold) : Type 0 where
  pub reads : new.failed_reads ≡ old.failed_reads
  pub writes : new.failed_writes ≡ old.failed_writes

-- a seal answers `Disk` exactly where a write or a sync failed
pub record SealCause {T : Type 0} (old new : DiskTold) (result : Result T SealFault) : Type 0 where
  pub ok : OnOk result (new.failed_writes ≡ old.failed_writes)
  pub disk : IsErrOf result seal_disk → WriteFailed old new
  pub no_memory : IsErrOf result seal_no_memory → new.failed_writes ≡ old.failed_writes
  pub closed : IsErrOf result Closed → new.failed_writes ≡ old.failed_writes
  pub reads : new.failed_reads ≡ old.failed_reads
  pub reliable : new.is_reliable ≡ old.is_reliable

-- each write found memory
abbrev pub FindsMemory : DiskTold → DiskTold → Type 0
FindsMemory old new = new.out_of_memory ≡ old.out_of_memory

-- no memory was found: nothing was done, or the last write that was made found none, and no other
abbrev pub RunsOutOfMemory : {D : Type 0} → (D → DiskTold) → D → D → Type 0
RunsOutOfMemory told old new = (new ≡ old) ⊎ WriteOutOfMemory (told old) (told new)

-- writes find memory, but for the last one where the call says that it found none
pub record PutWants {D T : Type 0} (told : D → DiskTold) (old new : D) (result : Result T Fault) : Type 0 where
  pub ok : OnOk result (FindsMemory (told old) (told new))
  pub failed : IsErrOf result Failed → FindsMemory (told old) (told new)
  pub no_memory : IsErrOf result NoMemory → RunsOutOfMemory told old new

-- the same of a seal
pub record SealWants {D T : Type 0} (told : D → DiskTold) (old new : D) (result : Result T SealFault) : Type 0 where
  pub ok : OnOk result (FindsMemory (told old) (told new))
  pub disk : IsErrOf result seal_disk → FindsMemory (told old) (told new)
  pub closed : IsErrOf result Closed → FindsMemory (told old) (told new)
  pub no_memory : IsErrOf result seal_no_memory → RunsOutOfMemory told old new

-- a read of a payload answers `Disk` exactly where a read failed
pub record ReadAtCause {T : Type 0} (old new : DiskTold) (result : Result T ReadFault) : Type 0 where
  pub ok : OnOk result (new.failed_reads ≡ old.failed_reads)
  pub disk : IsErrOf result read_disk → ReadFailed old new
  pub no_memory : IsErrOf result read_no_memory → new.failed_reads ≡ old.failed_reads

-- a look at a journal answers `Disk` exactly where a read failed
pub record LookCause {T : Type 0} (old new : DiskTold) (result : Result T LoadFault) : Type 0 where
  pub ok : OnOk result (new.failed_reads ≡ old.failed_reads)
  pub disk : IsErrOf result load_disk → ReadFailed old new
  pub no_memory : IsErrOf result load_no_memory → new.failed_reads ≡ old.failed_reads
  pub not_formatted : IsErrOf result NotFormatted → new.failed_reads ≡ old.failed_reads
  pub damaged : (place : ℕ) → IsErrOf result (Damaged place) → new.failed_reads ≡ old.failed_reads

-- loading answers `Disk` exactly where a call failed
pub record LoadCause {T : Type 0} (old new : DiskTold) (result : Result T LoadFault) : Type 0 where
  pub ok : OnOk result (SameCounts old new)
  pub disk : IsErrOf result load_disk → ReadFailed old new ⊎ WriteFailed old new
  pub no_memory : IsErrOf result load_no_memory → SameCounts old new
  pub not_formatted : IsErrOf result NotFormatted → SameCounts old new
  pub damaged : (place : ℕ) → IsErrOf result (Damaged place) → SameCounts old new
  pub reliable : new.is_reliable ≡ old.is_reliable
