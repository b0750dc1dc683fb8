-- What becomes of a request for a cycle.
--
-- What is due to a request is one definition of four cases (`Due`), which the desk, the records that can stand and the console's
-- turn share.
use Rattle.std.specs.Prelude.{ℕ, List, Option, Some, None, drop, if◌then◌else◌}
use Rattle.verb_bytes.specs.declared.journal.CycleAsk.{CycleAsk}
use Rattle.paradox.specs.declared.reports.Report.{Report}
use Rattle.verb_core.specs.Step.{run}
use Rattle.withdraw.specs.declared.undone.UndoneBehind.{UndoneBehind}
use Rattle.store_kept.specs.Kept.{Kept, report_of, rewound, with_report}
use Rattle.repair_desk.specs.Repairs.{position}
use Rattle.cycle_rules.specs.Cycles.{Cycled, cycled_at, leaves_numbers}

-- What is due to a request for a cycle, and to one for a withdrawal.
pub data Due : Type 0 where
  -- a cycle or a withdrawal had its key, and this is its report: nothing changes
  Repeats : Report → Due
  -- what it goes back to is not there: the timeline does not have its point, or the cycle that it is to withdraw is not the last
  NoPoint : Due
  -- too few numbers are left
  NoNumbers : Due
  -- the cycle, or the withdrawal
  Rewinds : Cycled → Due

-- whether it is due
abbrev pub IsRewinds : Due → Type 0
IsRewinds (Repeats report) = ⊥
IsRewinds NoPoint = ⊥
IsRewinds NoNumbers = ⊥
IsRewinds (Rewinds due) = Unit {0}

-- by the place of its point
abbrev pub due_at : Kept → ℕ → CycleAsk → Option ℕ → Due
due_at s at ask None = NoPoint
due_at s at ask (Some place) = if leaves_numbers s ask then Rewinds (cycled_at s at ask place) else NoNumbers

-- at a moment, under a new key
abbrev pub due_anew : Kept → ℕ → CycleAsk → Due
due_anew s at ask = due_at s at ask (position s.timeline ask.point)

-- by the report of an earlier one that had the key
abbrev pub due_by : Option Report → Due → Due
due_by None due = due
due_by (Some report) due = Repeats report

-- at a moment
abbrev pub cycle_due : Kept → ℕ → CycleAsk → Due
cycle_due s at ask = due_by (report_of s.reports ask.key) (due_anew s at ask)

-- What is kept after a repair: the store that its timeline leads to, its report under the key of the request, and no snapshot behind
-- its place. And what can be withdrawn from then on.
abbrev pub after_repair : Kept → List ℕ → Cycled → Option UndoneBehind → Kept
after_repair s key due undone = record s {
  store = run s.base due.timeline;
  timeline = due.timeline;
  stamps = due.stamps;
  next = due.next;
  reports = with_report key due.report s.reports;
  marks = rewound due.place due.entered s.marks;
  undone = undone;
}

-- what a cycle leaves to be withdrawn: the items that stood behind its point, where so many items stand before its notices
abbrev pub undone_at : Kept → CycleAsk → ℕ → ℕ → UndoneBehind
undone_at s ask place placed = record { cycle = s.next; point = ask.point; later = drop place s.timeline; position = place; placed = placed }

-- what is kept after the cycle, which can be withdrawn
abbrev pub after_cycle : Kept → CycleAsk → Cycled → Kept
after_cycle s ask due = after_repair s ask.key due (Some (undone_at s ask due.place due.placed))
