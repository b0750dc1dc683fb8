-- What becomes of a request for a cycle.
use Rattle.std.specs.Prelude.{◌≡◌, ◌⊎◌, ◌≤◌, ◌+◌, ◌-◌, ℕ, Bool, true, false, [], ◌∷◌, List, length, None, Some, Result, Ok, Err, IfErr, IfOk, IsErrOf, OnErr, OnOk, IsTrue}
use Rattle.undo_outside.specs.Disk.{DiskTold, ReadFailed, WriteOutOfMemory}
use Rattle.verb_core.specs.declared.bodies.BodiesFault.{BodiesFault}
use Rattle.verb_core.specs.declared.bodies.BodiesFault.TheVariants.{Failed}
use Rattle.verb_core.specs.declared.mailbox.Body.{Body}
use Rattle.verb_bytes.specs.declared.journal.CycleAsk.{CycleAsk}
use Rattle.verb_bytes.specs.declared.journal.JournalRecord.{JournalRecord}
use Rattle.verb_bytes.specs.declared.journal.JournalRecord.TheVariants.{Cycle}
use Rattle.verb_bytes.specs.Spelling.{record_bytes}
use Rattle.paradox.specs.declared.reports.Report.{Report}
use Rattle.store_kept.specs.Kept.{Kept, newest_at, report_of}
use Rattle.store_kept.specs.Texts.{items_asked}
use Rattle.verb_core.specs.declared.item.Item.{Item}
use Rattle.repair_desk.specs.Repairs.{position}
use Rattle.replay_crew.specs.Hearing.{TellsAll}
use Rattle.cycle_rules.specs.Asking.{Due, IsRewinds, Repeats, NoPoint, NoNumbers, Rewinds, after_cycle, cycle_due, due_anew}
use Rattle.cycle_rules.specs.Cycles.{cycled_at, repair_of}
use Rattle.cycle_rules.specs.Repairing.{Cycled, reworked}
use Rattle.mail_cycle.specs.Leaving.{IsMade, Leaves, items_left}
use Rattle.mail_cycle.specs.Refusing.{IsRefusalOf}
use Rattle.mail_cycle.specs.Tasks.{GoesWith, Task}
use Rattle.mail_cycle.specs.declared.settling.Rewound.{Rewound}
use Rattle.mail_cycle.specs.declared.refused.CycleRefused.{CycleRefused}
use Rattle.mail_cycle.specs.declared.refused.CycleRefused.TheVariants as refusals
use Rattle.seal_log.specs.declared.place.Place.{Place}
use Rattle.seal_log.specs.Causes.{FindsMemory}
use Rattle.seal_log.specs.Settled.{ReadsAlone}
use Rattle.shelf.specs.declared.note.Note.{Note}
use Rattle.mail_desk.specs.declared.noting.Fresh.{Fresh}
use Rattle.mail_desk.specs.declared.remake.Left.{Left}
use Rattle.mail_desk.specs.Held.{Held}
use Rattle.mail_desk.specs.Remaking.{FitsIn, LeavesUndone, left_as}
use Rattle.seal_log.specs.declared.fault.SealFault.{SealFault}
use Rattle.seal_log.specs.declared.fault.SealFault.TheVariants as log_faults
use Rattle.time_desk.specs.declared.fault.CycleFault.{CycleFault}
use Rattle.time_desk.specs.declared.fault.CycleFault.TheVariants.{Point, Numbers, Disk, NoMemory, Closed}
use Rattle.time_desk.specs.Planning.{BodiesCause}
use Rattle.time_desk.specs.Replaying.{ToldOr, cycle_reads, repair_reads}
use Rattle.time_desk.specs.Serving.{unmarked}
use Rattle.desk_journal.specs.Lasting.{Lasting, PastTold}
use Rattle.desk_journal.specs.Reading.{IsStill, ReadsWell}
use Rattle.desk_journal.specs.Sealing.{Seals}
use Rattle.desk_journal.specs.Stored.{HoldsTexts, IsFresh, Renotes}
use Rattle.desk_journal.specs.Submitting.{SealsNothing}
use Rattle.desk_journal.specs.Telling.{HoldsHeld, IsPastRead, told_first}

-- ---- a repair in memory

-- what it leaves, as a desk takes it, where it can be withdrawn and where it can't
abbrev pub left_of : Bool → Rewound → Left
left_of undoes made = record {
  store = made.store;
  from = made.from;
  behind = made.behind;
  stamps = made.stamps;
  next = made.next;
  place = made.place;
  placed = made.placed;
  entered = made.entered;
  report = made.report;
  undoes = undoes;
}

-- it can be put in the place of what is kept
abbrev pub IsFit : Kept → Rewound → Type 0
IsFit kept made = FitsIn kept (left_of false made)

-- and what it leaves to be withdrawn can come back
abbrev pub CanBeUndone : Kept → Bool → Rewound → Type 0
CanBeUndone kept undoes made = LeavesUndone kept (left_of undoes made)

-- what is kept where it is put in place, under a key
abbrev pub after_rewound : Kept → List ℕ → Bool → Rewound → Kept
after_rewound kept key undoes made = left_as kept key (left_of undoes made)

-- the items whose texts may be asked for then
abbrev pub asked_then : Kept → Bool → Rewound → List Item
asked_then kept undoes made = items_asked (after_rewound kept [] undoes made)

-- How many items a repair with so many acts performs at most. They are those through the place behind the newest snapshot there,
-- the acts that come in, the later items that stay, and the notices.
abbrev pub most_reworked : Kept → ℕ → Cycled → ℕ
most_reworked kept acts due = (due.place - newest_at due.place kept.marks.places) + acts + due.report.kept + length due.report.notices

-- how many at most where it fails after all, for want of memory or at the disk: these, with a notice for each account
abbrev pub most_begun : Kept → ℕ → Cycled → ℕ
most_begun kept acts due = (due.place - newest_at due.place kept.marks.places) + acts + due.report.kept + length kept.house.accounts

-- A repair of what is kept can be performed in memory. What it leaves can be gone on with, and the text of each of its items is one
-- that it brings, or can be read before a gate, whatever the disk.
pub record CanRework {D : Type 0} (told : D → DiskTold) (held : Held) (gate : ℕ) (t : Task) : Type 0 where
  pub kept : t.kept ≡ unmarked held.kept
  pub goes : GoesWith held.kept t.repair
  pub tells : (disk : D) → TellsAll (told_first told (record { disk = disk; end = gate }) held held.kept.next t.texts) t.repair.items

-- What comes of it: what is left in memory is made of the items as they were read, and can be put in place. Or a read failed exactly
-- where that is why there is none, and something was to be read. The disk was read alone, and steps were counted from the newest
-- snapshot on, also where there is none: no item was performed twice.
pub record Reworks {D : Type 0} (told : D → DiskTold) (held : Held) (t : Task) (old new : PastTold D) (before after : ℕ) (result : Result Rewound BodiesFault) : Type 0 where
  pub made : IfOk result (IsMade held.kept t.at t.repair (ToldOr (HoldsHeld (told old.disk) held) (repair_reads held.kept t.texts t.repair)))
  pub fit : IfOk result (IsFit held.kept)
  pub cause : BodiesCause (told old.disk) (told new.disk) result
  pub due : IsErrOf result Failed → IsTrue (repair_reads held.kept t.texts t.repair)
  pub still : IsPastRead told old new
  pub few : HoldsHeld (told old.disk) held → OnOk result (after ≤ before + most_reworked held.kept t.repair.acts (reworked held.kept t.at t.repair))
  pub most : HoldsHeld (told old.disk) held → OnErr result (after ≤ before + most_begun held.kept t.repair.acts (reworked held.kept t.at t.repair))
  pub any : OnErr result (after ≤ before + length t.repair.items + length held.kept.house.accounts)
  pub steps : IfOk result (λ made. after ≤ before + length (items_left held.kept.timeline made))

-- the same with nothing counted: of some steps
abbrev pub ReworksAlone : {D : Type 0} → (D → DiskTold) → Held → Task → PastTold D → PastTold D → Result Rewound BodiesFault → Type 0
ReworksAlone told held t old new result = (before : ℕ) × (after : ℕ) × Reworks told held t old new before after result

-- ---- a cycle in memory

-- a cycle is due under a new key, and this was made of its items as they were read
pub record IsCycled (kept : Kept) (at : ℕ) (ask : CycleAsk) (honest : Type 0) (made : Rewound) : Type 0 where
  pub place : ℕ
  pub is_place : position kept.timeline ask.point ≡ Some place
  pub due : due_anew kept at ask ≡ Rewinds (cycled_at kept at ask place)
  pub is_made : IsMade kept at (repair_of kept at ask place) honest made

-- A cycle is due under a new key. Where the texts are told as they were stored, or none is to be read, what is left in memory is what it
-- leaves.
abbrev pub Redoes : Kept → ℕ → CycleAsk → Type 0 → Rewound → Type 0
Redoes kept at ask told made = (due : Cycled) × (due_anew kept at ask ≡ Rewinds due) × (told → Leaves kept due made)

-- a read failed exactly where that is why there is no cycle
abbrev pub RedoesCause : {T : Type 0} → DiskTold → DiskTold → Result T CycleRefused → Type 0
RedoesCause old new (Ok made) = new.failed_reads ≡ old.failed_reads
RedoesCause old new (Err (refusals.Point given)) = new.failed_reads ≡ old.failed_reads
RedoesCause old new (Err (refusals.Numbers next)) = new.failed_reads ≡ old.failed_reads
RedoesCause old new (Err refusals.Disk) = ReadFailed old new
RedoesCause old new (Err refusals.NoMemory) = new.failed_reads ≡ old.failed_reads

-- What comes of a request for a cycle in memory, with nothing counted: the cycle that is due, or why there is none.
pub record RedoesAlone {D : Type 0} (told : D → DiskTold) (held : Held) (at : ℕ) (ask : CycleAsk) (old new : D) (result : Result Rewound CycleRefused) : Type 0 where
  pub cycled : IfOk result (IsCycled held.kept at ask (ToldOr (HoldsHeld (told old) held) (cycle_reads held.kept at ask)))
  pub fit : IfOk result (IsFit held.kept)
  pub undone : IfOk result (CanBeUndone held.kept true)
  pub refused : IfErr result (IsRefusalOf held.kept ask (due_anew held.kept at ask))
  pub cause : RedoesCause (told old) (told new) result
  pub due : IsErrOf result refusals.Disk → IsTrue (cycle_reads held.kept at ask)

-- how many items a cycle performs at most
abbrev pub most_performed : Kept → CycleAsk → Cycled → ℕ
most_performed kept ask due = most_reworked kept (length ask.inserts) due

-- how many at most where it is refused after all
abbrev pub most_tried : Kept → CycleAsk → Cycled → ℕ
most_tried kept ask due = most_begun kept (length ask.inserts) due

-- The same with its steps; where none is due nothing was touched.
pub record RedoesCycle {D : Type 0} (told : D → DiskTold) (held : Held) (at : ℕ) (ask : CycleAsk) (old new : D) (same : Type 0) (before after : ℕ) (result : Result Rewound CycleRefused) : Type 0 where
  pub alone : RedoesAlone told held at ask old new result
  pub untouched : IfErr result (λ refused. (IsRewinds (due_anew held.kept at ask) → ⊥) → same)
  pub few : (due : Cycled) → due_anew held.kept at ask ≡ Rewinds due → HoldsHeld (told old) held → OnOk result (after ≤ before + most_performed held.kept ask due)
  pub most : (due : Cycled) → due_anew held.kept at ask ≡ Rewinds due → HoldsHeld (told old) held → OnErr result (after ≤ before + most_tried held.kept ask due)
  pub any : OnErr result (after ≤ before + length held.kept.timeline + length ask.inserts + length held.kept.house.accounts)
  pub steps : IfOk result (λ made. after ≤ before + length (items_left held.kept.timeline made))

-- where the texts lie after a cycle whose record is to lie at a place
pub record RenotesAs (old : Held) (ask : CycleAsk) (at : ℕ) (place : Place) (made : Rewound) (notes : List (Body × Note)) : Type 0 where
  pub fresh : Fresh
  pub is_fresh : IsFresh old.kept.next at ask place (record_bytes (Cycle old.kept.next at ask)) fresh
  pub renotes : Renotes old.notes fresh old.kept.texts (asked_then old.kept true made) notes

-- a refusal of a cycle in memory, as it is told
abbrev pub IsTold : CycleRefused → CycleFault → Type 0
IsTold (refusals.Point given) fault = fault ≡ Point given
IsTold (refusals.Numbers next) fault = fault ≡ Numbers next
IsTold refusals.NoMemory fault = fault ≡ NoMemory
IsTold refusals.Disk fault = fault ≡ Disk

-- a fault of sealing, as it is told
abbrev pub seal_told : SealFault → CycleFault
seal_told log_faults.Disk = Disk
seal_told log_faults.NoMemory = NoMemory
seal_told log_faults.Closed = Closed

-- ---- a trial

-- a cycle is due under a new key; and where the texts are told as they were stored, or none is to be read, the report is that of it
abbrev pub Tries : Kept → ℕ → CycleAsk → Type 0 → Report → Type 0
Tries kept at ask told report = (due : Cycled) × (due_anew kept at ask ≡ Rewinds due) × (ToldOr told (cycle_reads kept at ask) → report ≡ due.report)

-- Why a trial has no report: the timeline does not have the point, or else too few numbers are left. Memory is wanted, and texts
-- are read, where a cycle is due alone. A read failed exactly where it says so, if something is to be read.
abbrev pub TriesNone : Kept → ℕ → CycleAsk → DiskTold → DiskTold → CycleFault → Type 0
TriesNone kept at ask old new (Point given) = (due_anew kept at ask ≡ NoPoint) × (given ≡ ask.point) × (new.failed_reads ≡ old.failed_reads)
TriesNone kept at ask old new (Numbers next) = (due_anew kept at ask ≡ NoNumbers) × (next ≡ kept.next) × (new.failed_reads ≡ old.failed_reads)
TriesNone kept at ask old new Disk = IsRewinds (due_anew kept at ask) × IsTrue (cycle_reads kept at ask) × ReadFailed old new
TriesNone kept at ask old new NoMemory = IsRewinds (due_anew kept at ask) × (new.failed_reads ≡ old.failed_reads)
TriesNone kept at ask old new Closed = ⊥

-- ---- a cycle

module _ {D : Type 0} (told : D → DiskTold) where
  -- By what is due to a request that a record is of, and whether something is to be read for it. A key that a cycle or a withdrawal
  -- had is answered with its report, and nothing changes. Else the one record is sealed. Where the texts lie on the disk as they are
  -- noted, or none is to be read, what is kept is what it leaves.
  abbrev pub DoesBy : JournalRecord → Bool → (Cycled → Kept) → Lasting D → Lasting D → Report → Due → Type 0
  DoesBy what some after old new report (Repeats earlier) = (report ≡ earlier) × (new ≡ old)
  DoesBy what some after old new report NoPoint = ⊥
  DoesBy what some after old new report NoNumbers = ⊥
  DoesBy what some after old new report (Rewinds due) =
      (old.closed ≡ false) × (ToldOr (HoldsTexts told old) some → (report ≡ due.report) × (new.kept ≡ after due)) × Seals told (what ∷ []) [] old new

  abbrev pub CyclesBy : ℕ → CycleAsk → Lasting D → Lasting D → Report → Due → Type 0
  CyclesBy at ask old new report due = DoesBy (Cycle old.kept.next at ask) (cycle_reads old.kept at ask) (after_cycle old.kept ask) old new report due

  -- a request at a moment that is answered with a report
  abbrev pub Cycles : ℕ → CycleAsk → Lasting D → Lasting D → Report → Type 0
  Cycles at ask old new report = CyclesBy at ask old new report (cycle_due old.kept at ask)

  -- Want of memory, by what is due. It is wanted for a report or for a cycle, never where the point or the numbers are missing;
  -- nothing was sealed, and no read failed.
  abbrev pub RunsOutOfMemoryBy : Lasting D → Lasting D → Due → Type 0
  RunsOutOfMemoryBy old new (Repeats earlier) = new ≡ old
  RunsOutOfMemoryBy old new NoPoint = ⊥
  RunsOutOfMemoryBy old new NoNumbers = ⊥
  RunsOutOfMemoryBy old new (Rewinds due) = (old.closed ≡ false) × SealsNothing told old new × ReadsWell told old new

  -- one is due, and the sealing of its record failed, behind reads that did not
  abbrev pub FailsToSeal : JournalRecord → Lasting D → Lasting D → Due → Type 0
  FailsToSeal what old new asked = (due : Cycled) × (asked ≡ Rewinds due) × Seals told [] (what ∷ []) old new × ReadsWell told old new

  -- one is due, something is to be read for it, and a read failed: nothing was sealed, and nothing changed
  abbrev pub FailsToReadFor : Bool → Lasting D → Lasting D → Due → Type 0
  FailsToReadFor some old new asked = IsRewinds asked × IsTrue some × IsStill told old new × ReadFailed (told old.disk) (told new.disk)

  -- Why a request has no report, by the key and the number that it names, and by what is due to it: what it goes back to or the numbers
  -- are missing, exactly where that is due. Or the record was not sealed, and the desk is closed, or a text was not read, and it stays
  -- open. Or no memory was found; or the desk was closed, and no earlier request had the key.
  abbrev pub NoneBy : JournalRecord → Bool → List ℕ → ℕ → Lasting D → Lasting D → Due → CycleFault → Type 0
  NoneBy what some key wanted old new due (Point given) = (old.closed ≡ false) × (due ≡ NoPoint) × (given ≡ wanted) × (new ≡ old)
  NoneBy what some key wanted old new due (Numbers next) = (old.closed ≡ false) × (due ≡ NoNumbers) × (next ≡ old.kept.next) × (new ≡ old)
  NoneBy what some key wanted old new due Disk = (old.closed ≡ false) × (FailsToSeal what old new due ⊎ FailsToReadFor some old new due)
  NoneBy what some key wanted old new due NoMemory = RunsOutOfMemoryBy old new due
  NoneBy what some key wanted old new due Closed = IsTrue old.closed × (report_of old.kept.reports key ≡ None) × (new ≡ old)

  abbrev pub CyclesNone : ℕ → CycleAsk → Lasting D → Lasting D → CycleFault → Type 0
  CyclesNone at ask old new fault = NoneBy (Cycle old.kept.next at ask) (cycle_reads old.kept at ask) ask.key ask.point old new (cycle_due old.kept at ask) fault

  -- Which writes found memory where a request has no report: all. But for want of memory none was made, or the last one that was
  -- made may be the one that found none.
  abbrev pub CycleWants : D → D → CycleFault → Type 0
  CycleWants old new (Point given) = FindsMemory (told old) (told new)
  CycleWants old new (Numbers next) = FindsMemory (told old) (told new)
  CycleWants old new Disk = FindsMemory (told old) (told new)
  CycleWants old new NoMemory = ReadsAlone (told old) (told new) ⊎ WriteOutOfMemory (told old) (told new)
  CycleWants old new Closed = FindsMemory (told old) (told new)
