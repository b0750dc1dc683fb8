-- What is asked of the past: a cycle, or to take the last one back.
use Rattle.std.specs.Prelude.{◌≡◌, ◌==◌, ◌&&◌, ◌+◌, ◌≤◌, ℕ, Bool, true, false, [], List, length, Some, Result, IsTrue, IfErr, OnErr, OnOk, IfOk}
use Rattle.undo_outside.specs.Disk.{DiskTold}
use Rattle.verb_core.specs.declared.conf.House.{House}
use Rattle.verb_core.specs.declared.mailbox.Body.{Body}
use Rattle.paradox.specs.declared.reports.Report.{Report}
use Rattle.verb_bytes.specs.declared.journal.JournalRecord.{JournalRecord}
use Rattle.verb_bytes.specs.declared.journal.JournalRecord.TheVariants as records
use Rattle.verb_bytes.specs.Spelling.{record_bytes}
use Rattle.withdraw.specs.declared.undone.UndoneBehind.{UndoneBehind}
use Rattle.store_kept.specs.Kept.{Kept, report_of, undone_of}
use Rattle.store_kept.specs.Texts.{items_asked}
use Rattle.repair_desk.specs.Repairs.{are_known}
use Rattle.cycle_rules.specs.Asking.{Due, Repeats, Rewinds, after_cycle, due_anew, due_by}
use Rattle.cycle_rules.specs.Repairing.{Cycled, leaves_numbers_for}
use Rattle.cycle_rules.specs.Withdrawals.{after_withdrawal, withdraw_due_anew, withdrawn_at}
use Rattle.mail_cycle.specs.declared.refused.CycleRefused.{CycleRefused}
use Rattle.mail_cycle.specs.declared.settling.Rewound.{Rewound}
use Rattle.mail_cycle.specs.Tasks.{IsCycle, Task, withdrawal_task}
use Rattle.seal_log.specs.declared.place.Place.{Place}
use Rattle.seal_log.specs.Causes.{FindsMemory}
use Rattle.shelf.specs.declared.note.Note.{Note}
use Rattle.mail_desk.specs.declared.noting.Fresh.{Fresh}
use Rattle.mail_desk.specs.Held.{Held}
use Rattle.desk_journal.specs.Lasting.{Lasting}
use Rattle.desk_journal.specs.Reading.{ReadsWell}
use Rattle.desk_journal.specs.Stored.{HoldsTexts, IsFresh, NotesNone}
use Rattle.time_desk.specs.declared.request.Request.{Request}
use Rattle.time_desk.specs.declared.request.Request.TheVariants.{Cycle, Withdrawal}
use Rattle.time_desk.specs.declared.fault.CycleFault.{CycleFault}
use Rattle.time_desk.specs.Cycling.{CycleWants, DoesBy, IsCycled, NoneBy, RedoesAlone, RedoesCycle, RenotesAs, asked_then, most_begun, most_reworked}
use Rattle.time_desk.specs.Replaying.{cycle_reads, withdrawal_reads}
use Rattle.time_desk.specs.Serving.{unmarked}
use Rattle.time_desk.specs.Withdrawing.{IsWithdrawn, WithdrawsAlone, WithdrawsInSteps}

-- the key that its report is to have
abbrev pub key_of : Request → List ℕ
key_of (Cycle ask) = ask.now.key
key_of (Withdrawal key of) = key.now

-- the number that it goes back to: that of a point, or of the cycle that is to be withdrawn
abbrev pub wanted_of : Request → ℕ
wanted_of (Cycle ask) = ask.now.point
wanted_of (Withdrawal key of) = of

-- its record, of a number and a moment
abbrev pub record_of : ℕ → ℕ → Request → JournalRecord
record_of number at (Cycle ask) = records.Cycle number at ask.now
record_of number at (Withdrawal key of) = records.Withdraw number at key.now of

-- whether what it leaves can be withdrawn
abbrev pub undoes_of : Request → Bool
undoes_of (Cycle ask) = true
undoes_of (Withdrawal key of) = false

-- where the texts lie that its record brings, which lies at a place
abbrev pub IsFreshOf : ℕ → ℕ → Request → Place → Fresh → Type 0
IsFreshOf number at (Cycle ask) place fresh = IsFresh number at ask.now place (record_bytes (records.Cycle number at ask.now)) fresh
IsFreshOf number at (Withdrawal key of) place fresh = (fresh.place ≡ place) × (fresh.shelf.notes ≡ [])

-- whether the users of the acts that it brings are known
abbrev pub knows_acts : House → Request → Bool
knows_acts house (Cycle ask) = are_known house ask.now.inserts
knows_acts house (Withdrawal key of) = true

-- whether it can follow under a number: that is the next one, and those users are known
abbrev pub redoes : Kept → ℕ → Request → Bool
redoes kept number asked = (number == kept.next) && knows_acts kept.house asked

-- whether a record is one of a request
abbrev pub asks : JournalRecord → Bool
asks (records.Cycle number at ask) = true
asks (records.Withdraw number at key of) = true
asks _ = false

-- those users are known
abbrev pub IsKnown : Kept → Request → Type 0
IsKnown kept (Cycle ask) = IsTrue (are_known kept.house ask.now.inserts)
IsKnown kept (Withdrawal key of) = Unit {0}

-- what is due to it at a moment, under a new key
abbrev pub anew_of : Kept → ℕ → Request → Due
anew_of kept at (Cycle ask) = due_anew kept at ask.now
anew_of kept at (Withdrawal key of) = withdraw_due_anew kept at of

-- whether something is to be read for it
abbrev pub reads_of : Kept → ℕ → Request → Bool
reads_of kept at (Cycle ask) = cycle_reads kept at ask.now
reads_of kept at (Withdrawal key of) = withdrawal_reads kept of

-- what is kept after it
abbrev pub after_of : Kept → Request → Cycled → Kept
after_of kept (Cycle ask) = after_cycle kept ask.now
after_of kept (Withdrawal key of) = after_withdrawal kept key.now

-- what is to be performed for it, where it is due
abbrev pub IsTaskFor : Kept → ℕ → Request → Task → Type 0
IsTaskFor kept at (Cycle ask) t = IsCycle (unmarked kept) at ask.now t
IsTaskFor kept at (Withdrawal key of) t =
    (last : UndoneBehind) × (undone_of kept of ≡ Some last) × (leaves_numbers_for kept 0 ≡ true) × (t ≡ withdrawal_task (unmarked kept) at last)

-- ---- in memory

-- what comes of it, with nothing counted
abbrev pub RedoesAloneFor : {D : Type 0} → (D → DiskTold) → Held → ℕ → Request → D → D → Result Rewound CycleRefused → Type 0
RedoesAloneFor told held at (Cycle ask) old new result = RedoesAlone told held at ask.now old new result
RedoesAloneFor told held at (Withdrawal key of) old new result = WithdrawsAlone told held at of old new result

-- the same with its steps
abbrev pub RedoesFor : {D : Type 0} → (D → DiskTold) → Held → ℕ → Request → D → D → Type 0 → ℕ → ℕ → Result Rewound CycleRefused → Type 0
RedoesFor told held at (Cycle ask) old new same before after result = RedoesCycle told held at ask.now old new same before after result
RedoesFor told held at (Withdrawal key of) old new same before after result = WithdrawsInSteps told held at of old new same before after result

-- what was made of its items as they were read, where it is due
abbrev pub IsMadeFor : Kept → ℕ → Request → Type 0 → Rewound → Type 0
IsMadeFor kept at (Cycle ask) honest made = IsCycled kept at ask.now honest made
IsMadeFor kept at (Withdrawal key of) honest made = IsWithdrawn kept at of honest made

-- where the texts lie after it, whose record is to lie at a place
abbrev pub NotesFor : Held → ℕ → Request → Place → Rewound → List (Body × Note) → Type 0
NotesFor old at (Cycle ask) place made notes = RenotesAs old ask.now at place made notes
NotesFor old at (Withdrawal key of) place made notes = NotesNone place old.notes old.kept.texts (asked_then old.kept false made) notes

-- ---- done

-- what is due to it at a moment
abbrev pub due_of : Kept → ℕ → Request → Due
due_of kept at asked = due_by (report_of kept.reports (key_of asked)) (anew_of kept at asked)

-- how many acts it brings
abbrev pub acts_of : Request → ℕ
acts_of (Cycle ask) = length ask.now.inserts
acts_of (Withdrawal key of) = 0

-- something holds of what is due to it under a new key, where anything is
abbrev pub WhereDue : Kept → ℕ → Request → (Cycled → Type 0) → Type 0
WhereDue kept at (Cycle ask) Holds = (due : Cycled) → due_anew kept at ask.now ≡ Rewinds due → Holds due
WhereDue kept at (Withdrawal key of) Holds = (last : UndoneBehind) → undone_of kept of ≡ Some last → Holds (withdrawn_at kept at last)

-- its steps, counted from so many on, are no more than all items that it may look at, and a notice to each user
abbrev pub AreFew : Kept → Request → ℕ → ℕ → Type 0
AreFew kept (Cycle ask) before after = after ≤ before + length kept.timeline + length ask.now.inserts + length kept.house.accounts
AreFew kept (Withdrawal key of) before after = after ≤ before + length (items_asked kept) + length kept.house.accounts

module _ {D : Type 0} (told : D → DiskTold) where
  -- it is answered with a report
  abbrev pub Does : ℕ → Request → Lasting D → Lasting D → Report → Type 0
  Does at asked old new report = DoesBy told (record_of old.kept.next at asked) (reads_of old.kept at asked) (after_of old.kept asked) old new report (due_of old.kept at asked)

  -- why it has none
  abbrev pub DoesNot : ℕ → Request → Lasting D → Lasting D → CycleFault → Type 0
  DoesNot at asked old new fault = NoneBy told (record_of old.kept.next at asked) (reads_of old.kept at asked) (key_of asked) (wanted_of asked) old new (due_of old.kept at asked) fault

  -- What comes of it at a moment, and its steps: where there is no report nothing that is kept has changed.
  pub record Answered (at : ℕ) (asked : Request) (old new : Lasting D) (before after : ℕ) (result : Result Report CycleFault) : Type 0 where
    pub done : IfOk result (λ report. Does at asked old new report)
    pub why : IfErr result (λ fault. DoesNot at asked old new fault)
    pub kept : OnErr result (new.kept ≡ old.kept)
    pub notes : OnErr result (new.notes ≡ old.notes)
    pub marks : OnErr result (new.marks ≡ old.marks)
    pub few : WhereDue old.kept at asked (λ due. HoldsTexts told old → OnOk result (after ≤ before + most_reworked old.kept (acts_of asked) due))
    pub most : WhereDue old.kept at asked (λ due. HoldsTexts told old → OnErr result (after ≤ before + most_begun old.kept (acts_of asked) due))
    pub any : OnErr result (AreFew old.kept asked before after)
    pub same : OnOk result (ReadsWell told old new)
    pub finds_memory : OnOk result (FindsMemory (told old.disk) (told new.disk))
    pub wants : IfErr result (λ fault. CycleWants told old.disk new.disk fault)
    pub steps : OnOk result (after ≤ before + length new.kept.timeline)
    pub once : (earlier : Report) → due_of old.kept at asked ≡ Repeats earlier → after ≡ before
