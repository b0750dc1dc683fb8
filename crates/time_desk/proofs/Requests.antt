-- What comes of a request in memory, by what is asked.
use Rattle.std.proofs.Common.{◌≡◌, ◌+◌, ◌<◌, ◌≤◌, ◌++◌, ℕ, Bool, true, List, Option, Some, None, Result, Ok, Err, refl, ap, sym, subst, arith}
use Rattle.std.specs.Prelude.{IsErrOf, IsTrue, length}
use Rattle.std.specs.List.{AllByRecursion}
use Rattle.undo_outside.specs.Disk.{DiskTold}
use Rattle.verb_core.specs.declared.bodies.BodiesFault.{BodiesFault}
use Rattle.verb_core.specs.declared.item.Item.{Item}
use Rattle.verb_core.specs.Items.{IsTimeline}
use Rattle.verb_bytes.specs.declared.journal.CycleAsk.{CycleAsk}
use Rattle.withdraw.specs.declared.undone.UndoneBehind.{UndoneBehind}
use Rattle.store_kept.specs.Bases.{HasBase}
use Rattle.store_kept.specs.Coming.{Comes, ComesIf, HasUndone}
use Rattle.store_kept.specs.Kept.{Kept, origin_of}
use Rattle.repair_desk.specs.Repairs.{are_known}
use Rattle.seal_log.specs.declared.log.Log.{Log}
use Rattle.cycle_rules.specs.Asking.{Due}
use Rattle.cycle_rules.specs.Cycles.{repair_of}
use Rattle.cycle_rules.specs.Withdrawals.{unedit_of}
use Rattle.mail_cycle.specs.declared.refused.CycleRefused.{CycleRefused}
use Rattle.mail_cycle.specs.declared.refused.CycleRefused.TheVariants as refusals
use Rattle.mail_cycle.specs.declared.settling.Rewound.{Rewound}
use Rattle.mail_cycle.specs.Refusing.{IsRefusalBy, refused_by}
use Rattle.mail_cycle.specs.Tasks.{GoesWith, Task}
use Rattle.mail_desk.specs.Held.{Held}
use Rattle.desk_journal.specs.Lasting.{JournalTold, PastTold, journal_of}
use Rattle.desk_journal.specs.Stored.{TextsNoted}
use Rattle.time_desk.specs.declared.request.Request.{Request}
use Rattle.time_desk.specs.declared.request.Request.TheVariants.{Cycle, Withdrawal}
use Rattle.time_desk.specs.Cycling.{CanRework, RedoesCause, Reworks}
use Rattle.time_desk.specs.Requests.{IsKnown, IsTaskFor, RedoesAloneFor, RedoesFor, anew_of, wanted_of}
use Rattle.time_desk.specs.Serving.{unmarked}
use Rattle.time_desk.proofs.Rewinding.{ComesBack, asked_can, comes_back, cycle_broken, cycle_redone, cycle_through}
use Rattle.time_desk.proofs.Telling.{tells_restored}
use Rattle.time_desk.proofs.Undone.{undone_is}
use Rattle.time_desk.proofs.Withdrawing.{withdrawal_broken, withdrawal_can, withdrawal_redone, withdrawal_through}

-- what a cycle, and a withdrawal, leaves can be gone on with
abbrev pub CyclesGo : Type 0
CyclesGo = (s : Kept) (at : ℕ) (ask : CycleAsk) (place : ℕ) → IsTimeline s.house s.timeline → AllByRecursion (λ (i : Item). i.number < s.next) s.timeline → IsTrue (are_known s.house ask.inserts) → GoesWith s (repair_of s at ask place)

abbrev pub WithdrawalsGo : Type 0
WithdrawalsGo = (s : Kept) (last : UndoneBehind) → IsTimeline s.house s.timeline → Comes (origin_of s) s.timeline s.next last → AllByRecursion (λ (i : Item). i.number < s.next) s.timeline → GoesWith s (unedit_of s last)

-- where it is due it can be performed
pub task_can : {D : Type 0} (told : D → DiskTold) (held : Held) (gate at : ℕ) (asked : Request) (t : Task) → CyclesGo → WithdrawalsGo → IsTaskFor held.kept at asked t → IsKnown held.kept asked → IsTimeline held.kept.house held.kept.timeline
    → AllByRecursion (λ (i : Item). i.number < held.kept.next) held.kept.timeline → HasUndone held.kept → TextsNoted gate held.notes held.kept → CanRework told held gate t
task_can told held gate at (Cycle ask) t cycles withdrawals task known timeline below undone noted =
    asked_can told held gate at ask.now t task (λ place. cycles held.kept at ask.now place timeline below known) timeline.apart noted undone
task_can told held gate at (Withdrawal key of) t cycles withdrawals (last, is_last, left, is) known timeline below undone noted =
    let kept = held.kept in
    let last_is = undone_is kept of last is_last in
    let comes : Comes (origin_of kept) kept.timeline kept.next last = subst (ComesIf (origin_of kept) kept.timeline kept.next) last_is undone in
    let goes = withdrawals kept last timeline comes below in
    withdrawal_can told held gate at last t is goes (tells_restored told held gate last last_is undone timeline goes.timeline.apart noted)

module _ {D : Type 0} (told : D → DiskTold) (held : Held) (at : ℕ) where
  -- what came of it
  pub redone : (asked : Request) (t : Task) (old new : PastTold D) (same : Type 0) (before after : ℕ) (made : Rewound) → ComesBack → HasBase held.kept → IsTimeline held.kept.house held.kept.timeline
      → AllByRecursion (λ (i : Item). i.number < held.kept.next) held.kept.timeline → IsTaskFor held.kept at asked t → Reworks told held t old new before after (Ok made)
      → RedoesFor told held at asked old.disk new.disk same before after (Ok made)
  redone (Cycle ask) t old new same before after made law base timeline below task done =
      cycle_redone told held at ask.now t old new same before after made task done (λ honest cycled. comes_back law held.kept at ask.now honest made cycled done.fit base timeline below)
  redone (Withdrawal key of) t old new same before after made law base timeline below (last, is_last, left, is) done =
      withdrawal_redone told held at of last is_last left t old new same before after made is done

  -- it was not worked out
  pub broken : (asked : Request) (t : Task) (old new : PastTold D) (same : Type 0) (before after : ℕ) (fault : BodiesFault) → HasUndone held.kept → IsTaskFor held.kept at asked t → Reworks told held t old new before after (Err fault)
      → RedoesFor told held at asked old.disk new.disk same before after (Err (refused_by fault))
  broken (Cycle ask) t old new same before after fault undone task done = cycle_broken told held at ask.now t old new same before after fault task done
  broken (Withdrawal key of) t old new same before after fault undone (last, is_last, left, is) done =
      withdrawal_broken told held at of last is_last left t old new same before after fault undone is done

  one_why : (a b : CycleRefused) → ◌≡◌ {A = Result Rewound CycleRefused} (Err a) (Err b) → a ≡ b
  one_why a b e = cc

  none_read : (disk : D) (r : CycleRefused) → (r ≡ refusals.Disk → ⊥) → RedoesCause {T = Rewound} (told disk) (told disk) (Err r)
  none_read disk (refusals.Point given) never = refl
  none_read disk (refusals.Numbers next) never = refl
  none_read disk refusals.Disk never = absurd (never refl)
  none_read disk refusals.NoMemory never = refl

  -- nothing is due, or no memory was found
  pub undue : (asked : Request) (disk : D) (same : Type 0) (steps : ℕ) (refused : CycleRefused) → IsRefusalBy held.kept (wanted_of asked) (anew_of held.kept at asked) refused → (refused ≡ refusals.Disk → ⊥) → same
      → RedoesFor told held at asked disk disk same steps steps (Err refused)
  undue (Cycle ask) disk same steps refused refusal unread untouched = record {
    alone = record { cycled = tt; fit = tt; undone = tt; refused = refusal; cause = none_read disk refused unread; due = λ failed. absurd (unread (one_why refused refusals.Disk failed)) };
    untouched = λ none. untouched;
    few = λ due due_is h. tt;
    most = λ due due_is h. omega arith;
    any = omega arith;
    steps = tt;
  }
  undue (Withdrawal key of) disk same steps refused refusal unread untouched = record {
    alone = record { withdrawn = tt; fit = tt; refused = refusal; cause = none_read disk refused unread; due = λ failed. absurd (unread (one_why refused refusals.Disk failed)) };
    untouched = λ none. untouched;
    few = λ last last_is h. tt;
    most = λ last last_is h. omega arith;
    any = omega arith;
    steps = tt;
  }

  -- of a journal, before its gate
  pub through : (asked : Request) (old : JournalTold D) (past new : PastTold D) (log : Log) (before after : ℕ) (result : Result Rewound CycleRefused) → journal_of past log ≡ old
      → RedoesFor told held at asked past.disk new.disk (new ≡ past) before after result → RedoesFor told held at asked old.disk new.disk (journal_of new log ≡ old) before after result
  through (Cycle ask) old past new log before after result is redoes = cycle_through told held at ask.now old past new log before after result is redoes
  through (Withdrawal key of) old past new log before after result is redoes = withdrawal_through told held at of old past new log before after result is redoes

  -- with nothing counted
  pub alone : (asked : Request) (old new : D) (same : Type 0) (before after : ℕ) (result : Result Rewound CycleRefused) → RedoesFor told held at asked old new same before after result → RedoesAloneFor told held at asked old new result
  alone (Cycle ask) old new same before after result redoes = redoes.alone
  alone (Withdrawal key of) old new same before after result redoes = redoes.alone

-- why there is none, told of what is kept but for the snapshots
pub refused_as : (kept : Kept) (wanted : ℕ) (due : Due) (why : CycleRefused) → IsRefusalBy (unmarked kept) wanted due why → IsRefusalBy kept wanted due why
refused_as kept wanted due (refusals.Point given) is = is
refused_as kept wanted due (refusals.Numbers next) is = is
refused_as kept wanted due refusals.Disk is = is
refused_as kept wanted due refusals.NoMemory is = is
