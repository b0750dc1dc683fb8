-- What becomes of a request for a withdrawal.
use Rattle.std.specs.Prelude.{◌≡◌, ◌⊎◌, ◌≤◌, ◌+◌, ℕ, false, List, length, None, Some, Result, IfErr, IfOk, IsErrOf, OnErr, OnOk, IsTrue}
use Rattle.undo_outside.specs.Disk.{DiskTold, WriteOutOfMemory}
use Rattle.verb_bytes.specs.declared.journal.JournalRecord.TheVariants.{Withdraw}
use Rattle.paradox.specs.declared.reports.Report.{Report}
use Rattle.withdraw.specs.declared.undone.UndoneBehind.{UndoneBehind}
use Rattle.store_kept.specs.Kept.{Kept, report_of, undone_of}
use Rattle.store_kept.specs.Texts.{items_asked}
use Rattle.cycle_rules.specs.Asking.{IsRewinds, NoNumbers, NoPoint, Rewinds}
use Rattle.cycle_rules.specs.Withdrawals.{after_withdrawal, unedit_of, withdraw_due, withdraw_due_anew, withdrawn_at}
use Rattle.mail_cycle.specs.declared.refused.CycleRefused.{CycleRefused}
use Rattle.mail_cycle.specs.declared.refused.CycleRefused.TheVariants as refusals
use Rattle.mail_cycle.specs.declared.settling.Rewound.{Rewound}
use Rattle.mail_cycle.specs.Leaving.{IsMade, items_left}
use Rattle.mail_cycle.specs.Refusing.{IsRefusalBy}
use Rattle.seal_log.specs.Causes.{FindsMemory}
use Rattle.seal_log.specs.declared.fault.SealFault.{SealFault}
use Rattle.seal_log.specs.declared.fault.SealFault.TheVariants as log_faults
use Rattle.seal_log.specs.Settled.{ReadsAlone}
use Rattle.mail_desk.specs.Held.{Held}
use Rattle.desk_journal.specs.Lasting.{Lasting}
use Rattle.desk_journal.specs.Telling.{HoldsHeld}
use Rattle.time_desk.specs.declared.fault.CycleFault.{CycleFault}
use Rattle.time_desk.specs.declared.fault.CycleFault.TheVariants as faults
use Rattle.time_desk.specs.declared.fault.WithdrawFault.{WithdrawFault}
use Rattle.time_desk.specs.declared.fault.WithdrawFault.TheVariants.{Cycle, Numbers, Disk, NoMemory, Closed}
use Rattle.time_desk.specs.Replaying.{ToldOr, withdrawal_reads}
use Rattle.time_desk.specs.Cycling.{CycleWants, DoesBy, IsFit, NoneBy, RedoesCause, most_begun, most_reworked}

-- ---- a withdrawal in memory

-- one is due under a new key, and this was made of its items as they were read
pub record IsWithdrawn (kept : Kept) (at of : ℕ) (honest : Type 0) (made : Rewound) : Type 0 where
  pub last : UndoneBehind
  pub is_last : undone_of kept of ≡ Some last
  pub due : withdraw_due_anew kept at of ≡ Rewinds (withdrawn_at kept at last)
  pub is_made : IsMade kept at (unedit_of kept last) honest made

-- What comes of a request in memory, with nothing counted: the withdrawal that is due, or why there is none.
pub record WithdrawsAlone {D : Type 0} (told : D → DiskTold) (held : Held) (at of : ℕ) (old new : D) (result : Result Rewound CycleRefused) : Type 0 where
  pub withdrawn : IfOk result (IsWithdrawn held.kept at of (ToldOr (HoldsHeld (told old) held) (withdrawal_reads held.kept of)))
  pub fit : IfOk result (IsFit held.kept)
  pub refused : IfErr result (IsRefusalBy held.kept of (withdraw_due_anew held.kept at of))
  pub cause : RedoesCause (told old) (told new) result
  pub due : IsErrOf result refusals.Disk → IsTrue (withdrawal_reads held.kept of)

-- The same with its steps; where none is due nothing was touched.
pub record WithdrawsInSteps {D : Type 0} (told : D → DiskTold) (held : Held) (at of : ℕ) (old new : D) (same : Type 0) (before after : ℕ) (result : Result Rewound CycleRefused) : Type 0 where
  pub alone : WithdrawsAlone told held at of old new result
  pub untouched : IfErr result (λ refused. (IsRewinds (withdraw_due_anew held.kept at of) → ⊥) → same)
  pub few : (last : UndoneBehind) → undone_of held.kept of ≡ Some last → HoldsHeld (told old) held → OnOk result (after ≤ before + most_reworked held.kept 0 (withdrawn_at held.kept at last))
  pub most : (last : UndoneBehind) → undone_of held.kept of ≡ Some last → HoldsHeld (told old) held → OnErr result (after ≤ before + most_begun held.kept 0 (withdrawn_at held.kept at last))
  pub any : OnErr result (after ≤ before + length (items_asked held.kept) + length held.kept.house.accounts)
  pub steps : IfOk result (λ made. after ≤ before + length (items_left held.kept.timeline made))

-- a fault as it is told of a cycle: of a point, where it is of the cycle that it goes back to
abbrev pub of_cycle : WithdrawFault → CycleFault
of_cycle (Cycle given) = faults.Point given
of_cycle (Numbers next) = faults.Numbers next
of_cycle Disk = faults.Disk
of_cycle NoMemory = faults.NoMemory
of_cycle Closed = faults.Closed

-- ---- a withdrawal

module _ {D : Type 0} (told : D → DiskTold) where
  -- a request at a moment that is answered with a report
  abbrev pub Withdraws : ℕ → List ℕ → ℕ → Lasting D → Lasting D → Report → Type 0
  Withdraws at key of old new report =
      DoesBy told (Withdraw old.kept.next at key of) (withdrawal_reads old.kept of) (after_withdrawal old.kept key) old new report (withdraw_due old.kept at key of)

  -- why a request has no report: as of a cycle
  abbrev pub WithdrawsNone : ℕ → List ℕ → ℕ → Lasting D → Lasting D → WithdrawFault → Type 0
  WithdrawsNone at key of old new fault =
      NoneBy told (Withdraw old.kept.next at key of) (withdrawal_reads old.kept of) key of old new (withdraw_due old.kept at key of) (of_cycle fault)

  -- which writes found memory where a request has no report
  abbrev pub WithdrawalWants : D → D → WithdrawFault → Type 0
  WithdrawalWants old new fault = CycleWants told old new (of_cycle fault)
