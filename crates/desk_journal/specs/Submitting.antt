-- What becomes of an ask, of an act, of a snapshot and of an upgrade.
use Rattle.std.specs.Prelude.{◌≡◌, ◌≢◌, ◌⊎◌, ℕ, ◌+◌, ◌<◌, true, false, List, [], ◌∷◌, length, Result, Ok, Err, OnOk, OnErr, IsErrOf, IsTrue}
use Rattle.undo_base.specs.declared.limits.TheConstants.{END_OF_NUMBERS}
use Rattle.undo_outside.specs.Disk.{DiskTold, WriteOutOfMemory}
use Rattle.verb_core.specs.declared.ask.Refused.{Refused}
use Rattle.verb_core.specs.declared.ask.SubmitFault.{SubmitFault}
use Rattle.verb_core.specs.declared.ask.SubmitFault.TheVariants.{Refused as IsRefused, Disk, Closed}
use Rattle.verb_core.specs.declared.ask.Refused.TheVariants.{NoMemory}
use Rattle.verb_core.specs.declared.item.Act.{Act}
use Rattle.verb_core.specs.declared.item.Item.{Item}
use Rattle.verb_bytes.specs.declared.journal.JournalRecord.{JournalRecord}
use Rattle.verb_bytes.specs.declared.journal.JournalRecord.TheVariants.{Verb, Operator, Upgrade}
use Rattle.box_store.specs.Refusing.{IsRefusal}
use Rattle.seal_log.specs.Causes.{FindsMemory, SealWants, RunsOutOfMemory}
use Rattle.seal_log.specs.declared.fault.SealFault.{SealFault}
use Rattle.seal_log.specs.declared.fault.SealFault.TheVariants as log_faults
use Rattle.desk_journal.specs.declared.fault.ActFault.{ActFault}
use Rattle.desk_journal.specs.declared.fault.ActFault.TheVariants as act_faults
use Rattle.seal_log.specs.Settled.{Holds, IsSettled}
use Rattle.store_kept.specs.Kept.{snapshotted, upgraded}
use Rattle.desk_journal.specs.Lasting.{IsUnwritten, JournalTold, Lasting}
use Rattle.desk_journal.specs.Records.{snapshot_record}
use Rattle.desk_journal.specs.Sealing.{Seals, SealsPayloads}

-- a fault of sealing, as a fault of an ask
abbrev pub IsOutcomeOf : SealFault → SubmitFault → Type 0
IsOutcomeOf log_faults.Disk fault = fault ≡ Disk
IsOutcomeOf log_faults.NoMemory fault = fault ≡ IsRefused NoMemory
IsOutcomeOf log_faults.Closed fault = ⊥

-- the same as a fault of an act
abbrev pub IsActOutcomeOf : SealFault → ActFault → Type 0
IsActOutcomeOf log_faults.Disk fault = fault ≡ act_faults.Disk
IsActOutcomeOf log_faults.NoMemory fault = fault ≡ act_faults.NoMemory
IsActOutcomeOf log_faults.Closed fault = ⊥

-- an ask that is refused for more than want of memory writes nothing
abbrev pub WritesNone : {D : Type 0} → Result Item SubmitFault → Lasting D → Lasting D → Type 0
WritesNone (Ok item) old new = Unit {0}
WritesNone (Err (IsRefused why)) old new = why ≢ NoMemory → IsUnwritten old new
WritesNone (Err Disk) old new = Unit {0}
WritesNone (Err Closed) old new = Unit {0}

-- What a call made of a payload that it was to seal behind a journal. It was sealed; or a write or a sync failed, and the journal
-- is closed; or no memory was found. It reads nothing, and after a write that found no memory it makes none.
pub record SealsBytes {D X : Type 0} (told : D → DiskTold) (bytes : List ℕ) (old new : JournalTold D) (result : Result X SealFault) : Type 0 where
  pub ok : OnOk result (SealsPayloads (bytes ∷ []) [] (told old.disk) (told new.disk) old.gate new.gate)
  pub failed : IsErrOf result log_faults.Disk → SealsPayloads [] (bytes ∷ []) (told old.disk) (told new.disk) old.gate new.gate
  pub no_memory : IsErrOf result log_faults.NoMemory → SealsPayloads [] [] (told old.disk) (told new.disk) old.gate new.gate
  pub never : IsErrOf result log_faults.Closed → ⊥
  pub still_open : OnOk result (new.closed ≡ false)
  pub open_again : IsErrOf result log_faults.NoMemory → new.closed ≡ false
  pub closes : IsErrOf result log_faults.Disk → new.closed ≡ true
  pub next : OnOk result (new.gate ≡ old.gate + 5 + length bytes)
  pub err : OnErr result (new.gate ≡ old.gate)
  pub held : (payloads : List (List ℕ)) → IsSettled (told old.disk) old.gate payloads → Holds (told new.disk) payloads
  pub reads : (told new.disk).failed_reads ≡ (told old.disk).failed_reads
  pub wants : SealWants told old.disk new.disk result

module _ {D : Type 0} (told : D → DiskTold) where
  -- Which writes found memory where an ask has no item. All did, where its sealing failed; none was made, where it is refused.
  -- But for want of memory the last write that was made may be the one that found none.
  abbrev pub SubmitWants : D → D → SubmitFault → Type 0
  SubmitWants old new (IsRefused why) = (new ≡ old) ⊎ ((why ≡ NoMemory) × WriteOutOfMemory (told old) (told new))
  SubmitWants old new Disk = FindsMemory (told old) (told new)
  SubmitWants old new Closed = new ≡ old

  -- the same of an act
  abbrev pub ActWants : D → D → ActFault → Type 0
  ActWants old new (act_faults.Numbers next) = new ≡ old
  ActWants old new act_faults.Disk = FindsMemory (told old) (told new)
  ActWants old new act_faults.NoMemory = RunsOutOfMemory told old new
  ActWants old new act_faults.Closed = new ≡ old

  -- nothing was sealed, and nothing is lost
  abbrev pub SealsNothing : Lasting D → Lasting D → Type 0
  SealsNothing old new = Seals told [] [] old new

  -- a record was not sealed: want of memory, and it was never there; or its sealing failed
  abbrev pub SealsNone : JournalRecord → Lasting D → Lasting D → SealFault → Type 0
  SealsNone what old new log_faults.Disk = Seals told [] (what ∷ []) old new
  SealsNone what old new log_faults.NoMemory = SealsNothing old new
  SealsNone what old new log_faults.Closed = ⊥

  -- there is an item, and the sealing of its record failed
  abbrev pub FailsToSeal : Result Item Refused → Lasting D → Lasting D → Type 0
  FailsToSeal due old new = (item : Item) × (due ≡ Ok item) × Seals told [] (Verb item ∷ []) old new

  -- Why an ask has no item, beside what is due: the refusal that is due, or want of memory. Or its record was not sealed; or the
  -- desk was closed, and stays as it was.
  abbrev pub SubmitsNone : Result Item Refused → Lasting D → Lasting D → SubmitFault → Type 0
  SubmitsNone due old new (IsRefused why) = (old.closed ≡ false) × IsRefusal why due × SealsNothing old new
  SubmitsNone due old new Disk = (old.closed ≡ false) × FailsToSeal due old new
  SubmitsNone due old new Closed = IsTrue old.closed × (new ≡ old)

  -- The same of an operator's act at a moment: no number is left, exactly where it says so.
  abbrev pub ActsNone : ℕ → Act → Lasting D → Lasting D → ActFault → Type 0
  ActsNone at act old new (act_faults.Numbers next) = (old.closed ≡ false) × (next ≡ old.kept.next) × (old.kept.next ≡ END_OF_NUMBERS) × (new ≡ old)
  ActsNone at act old new act_faults.Disk = (old.closed ≡ false) × (old.kept.next < END_OF_NUMBERS) × Seals told [] (Operator old.kept.next at act ∷ []) old new
  ActsNone at act old new act_faults.NoMemory = (old.closed ≡ false) × (old.kept.next < END_OF_NUMBERS) × SealsNothing old new
  ActsNone at act old new act_faults.Closed = IsTrue old.closed × (new ≡ old)

  -- A snapshot of what is kept was sealed, and marked; it is told how many items are in force.
  abbrev pub Snapshots : Lasting D → Lasting D → ℕ → Type 0
  Snapshots old new count =
      (old.closed ≡ false) × (count ≡ length old.kept.timeline) × (new.kept ≡ snapshotted old.kept) × Seals told (snapshot_record old.kept ∷ []) [] old new

  -- Why there is none: its sealing failed; or no memory was found; or the desk was closed, and stays as it was.
  abbrev pub SnapshotsNone : Lasting D → Lasting D → SealFault → Type 0
  SnapshotsNone old new log_faults.Disk = (old.closed ≡ false) × Seals told [] (snapshot_record old.kept ∷ []) old new
  SnapshotsNone old new log_faults.NoMemory = (old.closed ≡ false) × SealsNothing old new
  SnapshotsNone old new log_faults.Closed = IsTrue old.closed × (new ≡ old)

  -- Names may have superiors from then on, and the record of that was sealed.
  abbrev pub Upgrades : ℕ → Lasting D → Lasting D → Type 0
  Upgrades at old new = (old.closed ≡ false) × (new.kept ≡ upgraded old.kept) × Seals told (Upgrade at ∷ []) [] old new

  -- It is done once: where it was done before nothing changes, also on a desk that is closed.
  abbrev pub UpgradesOnce : ℕ → Lasting D → Lasting D → Type 0
  UpgradesOnce at old new = ((old.kept.deep ≡ true) × (new ≡ old)) ⊎ ((old.kept.deep ≡ false) × Upgrades at old new)

  -- Why they may not: as of a snapshot.
  abbrev pub UpgradesNone : ℕ → Lasting D → Lasting D → SealFault → Type 0
  UpgradesNone at old new log_faults.Disk = (old.closed ≡ false) × Seals told [] (Upgrade at ∷ []) old new
  UpgradesNone at old new log_faults.NoMemory = (old.closed ≡ false) × SealsNothing old new
  UpgradesNone at old new log_faults.Closed = IsTrue old.closed × (new ≡ old)
