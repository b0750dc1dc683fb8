-- What is performed again in the place of the timeline, line by line. What users were shown is compared with what they would be
-- shown now, and each user whose answers no longer hold gets a notice. A cycle is one such repair, and a withdrawal another.
use Rattle.std.specs.Prelude.{ℕ, ◌+◌, Bool, ◌==◌, nat_le, List, [], ◌∷◌, ◌++◌, drop, filter, length, None}
use Rattle.undo_base.specs.declared.keys.User.{User}
use Rattle.undo_base.specs.declared.limits.TheConstants.{LAST_NUMBER}
use Rattle.verb_core.specs.declared.item.Deed.TheVariants.{Notice}
use Rattle.verb_core.specs.declared.item.Item.{Item}
use Rattle.verb_core.specs.declared.item.Shown.{Shown}
use Rattle.verb_core.specs.declared.item.Shown.TheVariants.{Nothing}
use Rattle.verb_core.specs.declared.mailbox.BoxId.{BoxId}
use Rattle.verb_core.specs.Step.{answers, run}
use Rattle.verb_core.specs.Store.{MailStore}
use Rattle.paradox.specs.Letters.{notices}
use Rattle.paradox.specs.declared.reports.BrokenItem.{BrokenItem}
use Rattle.paradox.specs.declared.reports.Report.{Report}
use Rattle.repair_desk.specs.Repairs.{numbers_of}
use Rattle.repair_desk.specs.Renewals.{renewed}
use Rattle.cycle_rules.specs.Judging.{judged, shown_after}
use Rattle.store_kept.specs.Kept.{Kept, store_of}

-- ---- what is asked of the timeline

-- The repaired items: the first `place` of the timeline stand there as they are, then so many acts that come in, then the later
-- items. Of those that users were shown, `before`, some go. The point and the two counts are for the report.
pub record Repair : Type 0 where
  -- how many items stay as they are
  pub place : ℕ
  -- all items, which are performed from the base on
  pub items : List Item
  -- how many acts come in behind the place
  pub acts : ℕ
  -- the later items as users were shown them, of which each that goes, or shows something else now, is told of
  pub before : List Item
  -- the numbers of those that go
  pub drops : List ℕ
  -- the number of the item at the place, or 0
  pub point : ℕ
  -- how many later items stay
  pub kept : ℕ
  -- the numbers asked for that did nothing
  pub unmatched : List ℕ

-- ---- notices

-- a notice as an item: it has no user
abbrev pub notice_item : ℕ → ℕ → User × List ℕ → Item
notice_item number at n = record { number = number; at = at; by = None; rev = 0; deed = Notice n.0 n.1; shown = Nothing }

-- notices as items of a moment, with the numbers behind the given one
abbrev pub notice_items : ℕ → ℕ → List (User × List ℕ) → List Item
notice_items number at [] = []
notice_items number at (n ∷ ns) = notice_item (number + 1) at n ∷ notice_items (number + 1) at ns

-- ---- what is left, and what is reported

-- What a repair leaves: the place behind which all is performed anew, the items in force, and how many of them stand before its
-- notices. And the stamps, the next number, how many items entered (acts and notices), and the report.
pub record Cycled : Type 0 where
  pub place : ℕ
  pub timeline : List Item
  pub placed : ℕ
  pub stamps : List (BoxId × ℕ)
  pub next : ℕ
  pub entered : ℕ
  pub report : Report

-- the mailboxes that have the stamp of the cycle
abbrev pub renewed_by : ℕ → List (BoxId × ℕ) → List (BoxId × ℕ)
renewed_by c stamps = filter (λ (r : BoxId × ℕ). r.1 == c) stamps

-- ---- The repair, line by line: of what is kept, at a moment.

-- How many of its items are never compared: those through the place, and the acts.
abbrev pub front_in : Repair → ℕ
front_in repair = repair.place + repair.acts

-- What each later item that stays shows now, when all are performed from the base on.
abbrev pub compared_in : Kept → Repair → List Shown
compared_in s repair = drop (front_in repair) (answers s.base repair.items)

-- The broken and withdrawn items, in their order.
abbrev pub broken_in : Kept → Repair → List BrokenItem
broken_in s repair = judged repair.drops repair.before (compared_in s repair)

-- The notices of these, as items, with the numbers behind those of the acts.
abbrev pub told_in : Kept → ℕ → Repair → List Item
told_in s at repair = notice_items (s.next + repair.acts) at (notices s.house s.next at (broken_in s repair))

-- The items as they are shown afterwards.
abbrev pub kept_in : Kept → Repair → List Item
kept_in s repair = shown_after (front_in repair) repair.items (compared_in s repair)

-- The items in force: these, and the notices.
abbrev pub timeline_in : Kept → ℕ → Repair → List Item
timeline_in s at repair = kept_in s repair ++ told_in s at repair

-- The store to which they lead.
abbrev pub led_in : Kept → ℕ → Repair → MailStore
led_in s at repair = run s.base (timeline_in s at repair)

-- The stamps, by the store before the repair and this one.
abbrev pub stamps_in : Kept → ℕ → Repair → List (BoxId × ℕ)
stamps_in s at repair = renewed (store_of s).boxes (led_in s at repair).boxes s.stamps s.next

abbrev pub report_in : Kept → ℕ → Repair → Report
report_in s at repair = record {
  cycle = s.next;
  point = repair.point;
  kept = repair.kept;
  broken = broken_in s repair;
  notices = numbers_of (told_in s at repair);
  renewed = renewed_by s.next (stamps_in s at repair);
  unmatched = repair.unmatched;
}

-- What the repair leaves.
abbrev pub reworked : Kept → ℕ → Repair → Cycled
reworked s at repair = record {
  place = repair.place;
  timeline = timeline_in s at repair;
  placed = length repair.items;
  stamps = stamps_in s at repair;
  next = s.next + 1 + repair.acts + length (told_in s at repair);
  entered = repair.acts + length (told_in s at repair);
  report = report_in s at repair;
}

-- whether numbers are left for a repair, so many acts and a notice to each user
abbrev pub leaves_numbers_for : Kept → ℕ → Bool
leaves_numbers_for s acts = nat_le (s.next + 1 + acts + length s.house.accounts) LAST_NUMBER
