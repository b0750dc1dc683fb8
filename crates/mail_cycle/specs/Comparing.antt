-- A repair as it is worked out, by what came of performing the repaired items, from a store to which the first of them led. The
-- items are as they were read, so texts of deliveries may be others. Over the repaired items themselves, from the base on, it is
-- the repair.
--
-- What a cycle leaves is said over the items as they were read (`reworked_with`), and over the repaired ones (`cycled_at` of
-- cycle_rules) where what is read is what was stored. On a disk that is not honest the former alone holds, and it is enough to go
-- on.
use Rattle.std.specs.Prelude.{ℕ, ◌+◌, ◌-◌, List, ◌++◌, drop, length}
use Rattle.verb_core.specs.declared.item.Item.{Item}
use Rattle.verb_core.specs.declared.item.Shown.{Shown}
use Rattle.verb_core.specs.declared.mailbox.BoxId.{BoxId}
use Rattle.verb_core.specs.Step.{answers, run}
use Rattle.verb_core.specs.Store.{MailStore}
use Rattle.paradox.specs.Letters.{notices}
use Rattle.paradox.specs.declared.reports.BrokenItem.{BrokenItem}
use Rattle.paradox.specs.declared.reports.Report.{Report}
use Rattle.store_kept.specs.Kept.{Kept, store_of}
use Rattle.repair_desk.specs.Repairs.{numbers_of}
use Rattle.repair_desk.specs.Renewals.{renewed}
use Rattle.cycle_rules.specs.Repairing.{Cycled, Repair, front_in, notice_items, renewed_by}
use Rattle.cycle_rules.specs.Judging.{judged, shown_after}

-- ---- by what each later item that stays shows now, and the store behind the notices

-- the broken and withdrawn items
abbrev pub broken_by : Repair → List Shown → List BrokenItem
broken_by repair now = judged repair.drops repair.before now

-- the notices, as items
abbrev pub told_by : Kept → ℕ → Repair → List Shown → List Item
told_by s at repair now = notice_items (s.next + repair.acts) at (notices s.house s.next at (broken_by repair now))

-- the items in force: those that were performed, and the notices
abbrev pub timeline_by : Kept → ℕ → Repair → List Item → List Shown → List Item
timeline_by s at repair items now = shown_after (front_in repair) items now ++ told_by s at repair now

-- the stamps, by the store before and the store after
abbrev pub stamps_by : Kept → MailStore → List (BoxId × ℕ)
stamps_by s after = renewed (store_of s).boxes after.boxes s.stamps s.next

abbrev pub report_by : Kept → ℕ → Repair → List Shown → MailStore → Report
report_by s at repair now after = record {
  cycle = s.next;
  point = repair.point;
  kept = repair.kept;
  broken = broken_by repair now;
  notices = numbers_of (told_by s at repair now);
  renewed = renewed_by s.next (stamps_by s after);
  unmatched = repair.unmatched;
}

abbrev pub reworked_by : Kept → ℕ → Repair → List Item → List Shown → MailStore → Cycled
reworked_by s at repair items now after = record {
  place = repair.place;
  timeline = timeline_by s at repair items now;
  placed = length repair.items;
  stamps = stamps_by s after;
  next = s.next + 1 + repair.acts + length (told_by s at repair now);
  entered = repair.acts + length (told_by s at repair now);
  report = report_by s at repair now after;
}

-- ---- from a beginning: a store on which the items behind the first so many are performed, as they were read

-- what each later item that stays shows now
abbrev pub compared_from : Repair → MailStore → ℕ → List Item → List Shown
compared_from repair first count items = drop (front_in repair - count) (answers first (drop count items))

-- the items in force
abbrev pub timeline_from : Kept → ℕ → Repair → MailStore → ℕ → List Item → List Item
timeline_from s at repair first count items = timeline_by s at repair items (compared_from repair first count items)

-- the store that those behind the beginning lead to
abbrev pub reached_from : Kept → ℕ → Repair → MailStore → ℕ → List Item → MailStore
reached_from s at repair first count items = run first (drop count (timeline_from s at repair first count items))

-- the repair from there
abbrev pub reworked_from : Kept → ℕ → Repair → MailStore → ℕ → List Item → Cycled
reworked_from s at repair first count items = reworked_by s at repair items (compared_from repair first count items) (reached_from s at repair first count items)

-- ---- from the base on, over the items as they were read

abbrev pub compared_with : Kept → Repair → List Item → List Shown
compared_with s repair items = drop (front_in repair) (answers s.base items)

abbrev pub timeline_with : Kept → ℕ → Repair → List Item → List Item
timeline_with s at repair items = timeline_by s at repair items (compared_with s repair items)

abbrev pub reworked_with : Kept → ℕ → Repair → List Item → Cycled
reworked_with s at repair items = reworked_by s at repair items (compared_with s repair items) (run s.base (timeline_with s at repair items))
