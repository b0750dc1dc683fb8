-- A cycle: the timeline is repaired as it is asked behind a point.
use Rattle.std.specs.Prelude.{ℕ, ◌+◌, Bool, List, drop, length}
use Rattle.verb_bytes.specs.declared.journal.CycleAsk.{CycleAsk}
use Rattle.verb_core.specs.declared.item.Item.{Item}
use Rattle.verb_core.specs.declared.item.Shown.{Shown}
use Rattle.verb_core.specs.declared.mailbox.BoxId.{BoxId}
use Rattle.verb_core.specs.Store.{MailStore}
use Rattle.paradox.specs.declared.reports.BrokenItem.{BrokenItem}
use Rattle.paradox.specs.declared.reports.Report.{Report}
use Rattle.repair_desk.specs.Repairs.{edited_at}
pub use Rattle.cycle_rules.specs.Repairing.{Cycled, Repair, notice_item, notice_items, renewed_by, reworked}
use Rattle.cycle_rules.specs.Repairing.{broken_in, compared_in, kept_in, leaves_numbers_for, led_in, report_in, stamps_in, timeline_in, told_in}
use Rattle.store_kept.specs.Kept.{Kept}

-- ---- what is asked of the timeline

-- The items: those through the place, the acts that come in, and the later ones that stay.
abbrev pub repaired_items : Kept → ℕ → CycleAsk → ℕ → List Item
repaired_items s at ask place = (edited_at s.timeline ask s.next at place).items

-- the repair of a request, behind a place of the timeline
abbrev pub repair_of : Kept → ℕ → CycleAsk → ℕ → Repair
repair_of s at ask place = record {
  place = place;
  items = repaired_items s at ask place;
  acts = length ask.inserts;
  before = drop place s.timeline;
  drops = ask.drops;
  point = ask.point;
  kept = (edited_at s.timeline ask s.next at place).kept;
  unmatched = (edited_at s.timeline ask s.next at place).unmatched;
}

-- What the cycle leaves.
abbrev pub cycled_at : Kept → ℕ → CycleAsk → ℕ → Cycled
cycled_at s at ask place = reworked s at (repair_of s at ask place)

-- whether numbers are left for the cycle, its acts and a notice to each user
abbrev pub leaves_numbers : Kept → CycleAsk → Bool
leaves_numbers s ask = leaves_numbers_for s (length ask.inserts)

-- ---- its lines

abbrev pub front_of : CycleAsk → ℕ → ℕ
front_of ask place = place + length ask.inserts

abbrev pub compared_at : Kept → ℕ → CycleAsk → ℕ → List Shown
compared_at s at ask place = compared_in s (repair_of s at ask place)

abbrev pub broken_at : Kept → ℕ → CycleAsk → ℕ → List BrokenItem
broken_at s at ask place = broken_in s (repair_of s at ask place)

abbrev pub told_at : Kept → ℕ → CycleAsk → ℕ → List Item
told_at s at ask place = told_in s at (repair_of s at ask place)

abbrev pub kept_at : Kept → ℕ → CycleAsk → ℕ → List Item
kept_at s at ask place = kept_in s (repair_of s at ask place)

abbrev pub timeline_at : Kept → ℕ → CycleAsk → ℕ → List Item
timeline_at s at ask place = timeline_in s at (repair_of s at ask place)

abbrev pub led_to : Kept → ℕ → CycleAsk → ℕ → MailStore
led_to s at ask place = led_in s at (repair_of s at ask place)

abbrev pub stamps_at : Kept → ℕ → CycleAsk → ℕ → List (BoxId × ℕ)
stamps_at s at ask place = stamps_in s at (repair_of s at ask place)

abbrev pub report_at : Kept → ℕ → CycleAsk → ℕ → Report
report_at s at ask place = report_in s at (repair_of s at ask place)
