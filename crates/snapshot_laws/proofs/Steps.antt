-- What each kind of record leaves, where it can stand.
use Rattle.std.proofs.Common.{◌≡◌, ℕ, ◌+◌, ◌≤◌, ◌==◌, Bool, true, false, ◌&&◌, cond, List, ◌++◌, drop, length, map, take, Option, Some, None, refl, arith, eqb-true, length-append, length-take-le}
use Rattle.verb_core.specs.declared.conf.Conf.{Conf}
use Rattle.verb_core.specs.declared.item.Item.{Item}
use Rattle.verb_core.specs.declared.item.Shown.{Shown}
use Rattle.verb_core.specs.declared.mailbox.BoxId.{BoxId}
use Rattle.verb_core.specs.declared.mailbox.Mailbox.{Mailbox}
use Rattle.verb_bytes.specs.declared.journal.CycleAsk.{CycleAsk}
use Rattle.verb_bytes.specs.declared.journal.JournalRecord.{JournalRecord}
use Rattle.verb_bytes.specs.declared.journal.JournalRecord.TheVariants.{Cycle, Snapshot, Withdraw}
use Rattle.box_store.specs.Making.{makes_store}
use Rattle.paradox.specs.declared.reports.Report.{Report}
use Rattle.withdraw.specs.declared.undone.UndoneBehind.{UndoneBehind}
use Rattle.withdraw.specs.Unediting.{as_shown}
use Rattle.store_kept.specs.Kept.{Kept, performed, report_of, undone_of}
use Rattle.repair_desk.specs.Repairs.{inserted, kept as kept_of, position, repaired}
use Rattle.repair_desk.proofs.Points.{within}
use Rattle.cycle_rules.specs.Asking.{NoNumbers, Rewinds, after_cycle, cycle_due, due_at, due_by}
use Rattle.cycle_rules.specs.Cycles.{compared_at, cycled_at, front_of, leaves_numbers, timeline_at, told_at}
use Rattle.cycle_rules.specs.Judging.{shown_after}
use Rattle.cycle_rules.specs.Repairing.{compared_in, leaves_numbers_for, timeline_in, told_in}
use Rattle.cycle_rules.specs.Withdrawals.{after_withdrawal, unedit_of, withdraw_due, withdraw_due_at, withdrawn_at}
use Rattle.mail_cycle.proofs.Cycled.{length_shown}
use Rattle.desk_journal.specs.Records.{after_cycle_record, after_due, after_item, after_kept, after_snapshot, after_withdraw_record, can_follow, can_rewind, is_spelled}

-- ---- an item

pub performed_is : (kept next : Kept) (what : JournalRecord) (item : Item) → after_item kept what item ≡ Some next → performed kept item ≡ next
performed_is kept next what item e = by (is_spelled what && can_follow kept item) e
  where
    by : (b : Bool) → cond b (Some (performed kept item)) None ≡ Some next → performed kept item ≡ next
    by true e = cc e
    by false e = absurd (cc e)

-- ---- a snapshot

pub record IsKept (kept next : Kept) (items : ℕ) (conf : Conf) (rows : List (BoxId × Mailbox)) : Type 0 where
  pub items_are : items ≡ length kept.timeline
  pub next_is : after_kept kept (Snapshot items conf rows) ≡ next

pub kept_is : (kept next : Kept) (items : ℕ) (conf : Conf) (rows : List (BoxId × Mailbox)) → after_snapshot kept items conf rows ≡ Some next → IsKept kept next items conf rows
kept_is kept next items conf rows e = by (is_spelled (Snapshot items conf rows)) (items == length kept.timeline) (makes_store kept.house conf rows) refl e
  where
    by : (spelled same makes : Bool) → (items == length kept.timeline) ≡ same → cond (spelled && (same && makes)) (Some (after_kept kept (Snapshot items conf rows))) None ≡ Some next → IsKept kept next items conf rows
    by true true true f e = record { items_are = eqb-true items (length kept.timeline) f; next_is = cc e }
    by true true false f e = absurd (cc e)
    by true false makes f e = absurd (cc e)
    by false same makes f e = absurd (cc e)

-- ---- a cycle

pub record IsCycled (kept next : Kept) (at : ℕ) (ask : CycleAsk) : Type 0 where
  pub place : ℕ
  pub found : position kept.timeline ask.point ≡ Some place
  pub next_is : after_cycle kept ask (cycled_at kept at ask place) ≡ next

module _ (kept next : Kept) (at : ℕ) (ask : CycleAsk) where
  by_place : (o : Option ℕ) → position kept.timeline ask.point ≡ o → after_due (after_cycle kept ask) (due_at kept at ask o) ≡ Some next → IsCycled kept next at ask
  by_place None f e = absurd (cc e)
  by_place (Some place) f e = by (leaves_numbers kept ask) e
    where
      by : (b : Bool) → after_due (after_cycle kept ask) (cond b (Rewinds (cycled_at kept at ask place)) NoNumbers) ≡ Some next → IsCycled kept next at ask
      by true e = record { place = place; found = f; next_is = cc e }
      by false e = absurd (cc e)

  by_report : (o : Option Report) → after_due (after_cycle kept ask) (due_by o (due_at kept at ask (position kept.timeline ask.point))) ≡ Some next → IsCycled kept next at ask
  by_report None e = by_place (position kept.timeline ask.point) refl e
  by_report (Some report) e = absurd (cc e)

  pub cycled_is : (number : ℕ) → after_cycle_record kept number at ask ≡ Some next → IsCycled kept next at ask
  cycled_is number e = by (is_spelled (Cycle number at ask) && can_rewind kept number ask) e
    where
      by : (b : Bool) → cond b (after_due (after_cycle kept ask) (cycle_due kept at ask)) None ≡ Some next → IsCycled kept next at ask
      by true e = by_report (report_of kept.reports ask.key) e
      by false e = absurd (cc e)

-- ---- a withdrawal

pub record IsWithdrawn (kept next : Kept) (at : ℕ) (key : List ℕ) (of : ℕ) : Type 0 where
  pub last : UndoneBehind
  pub found : undone_of kept of ≡ Some last
  pub next_is : after_withdrawal kept key (withdrawn_at kept at last) ≡ next

module _ (kept next : Kept) (at : ℕ) (key : List ℕ) (of : ℕ) where
  by_last : (o : Option UndoneBehind) → undone_of kept of ≡ o → after_due (after_withdrawal kept key) (withdraw_due_at kept at o) ≡ Some next → IsWithdrawn kept next at key of
  by_last None f e = absurd (cc e)
  by_last (Some last) f e = by (leaves_numbers_for kept 0) e
    where
      by : (b : Bool) → after_due (after_withdrawal kept key) (cond b (Rewinds (withdrawn_at kept at last)) NoNumbers) ≡ Some next → IsWithdrawn kept next at key of
      by true e = record { last = last; found = f; next_is = cc e }
      by false e = absurd (cc e)

  by_key : (o : Option Report) → after_due (after_withdrawal kept key) (due_by o (withdraw_due_at kept at (undone_of kept of))) ≡ Some next → IsWithdrawn kept next at key of
  by_key None e = by_last (undone_of kept of) refl e
  by_key (Some report) e = absurd (cc e)

  pub withdrawn_is : (number : ℕ) → after_withdraw_record kept number at key of ≡ Some next → IsWithdrawn kept next at key of
  withdrawn_is number e = by (is_spelled (Withdraw number at key of) && (number == kept.next)) e
    where
      by : (b : Bool) → cond b (after_due (after_withdrawal kept key) (withdraw_due kept at key of)) None ≡ Some next → IsWithdrawn kept next at key of
      by true e = by_key (report_of kept.reports key) e
      by false e = absurd (cc e)

-- ---- how long a timeline is

-- that of a cycle has all items through its point
long : (front place : ℕ) (t acts more told : List Item) (now : List Shown) → place ≤ length t → place ≤ length (shown_after front (take place t ++ acts ++ more) now ++ told)
long front place t acts more told now le =
    omega (arith, length-append (shown_after front (take place t ++ acts ++ more) now) told, length_shown front (take place t ++ acts ++ more) now, length-append (take place t ++ acts) more, length-append (take place t) acts, length-take-le place t le)

pub cycled_within : (kept : Kept) (at : ℕ) (ask : CycleAsk) (place : ℕ) → position kept.timeline ask.point ≡ Some place → place ≤ length (timeline_at kept at ask place)
cycled_within kept at ask place found =
    long (front_of ask place) place kept.timeline (inserted kept.next at ask.inserts) (map (repaired ask kept.next) (kept_of ask (drop place kept.timeline))) (told_at kept at ask place)
    (compared_at kept at ask place) (within kept.timeline ask.point place found)

-- and that of a withdrawal has all through the point of its cycle
pub withdrawn_within : (kept : Kept) (at : ℕ) (last : UndoneBehind) → last.position ≤ length kept.timeline → last.position ≤ length (timeline_in kept at (unedit_of kept last))
withdrawn_within kept at last le =
    long (last.position + 0) last.position kept.timeline (map (as_shown (drop last.position kept.timeline)) last.later) (drop last.placed kept.timeline) (told_in kept at (unedit_of kept last))
    (compared_in kept (unedit_of kept last)) le
