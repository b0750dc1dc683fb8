-- Where a later item stands in the new timeline, and what it shows there.
use Rattle.std.specs.Prelude.{ℕ, ◌++◌, if◌then◌else◌, List, drop, filter_map, map, take, Option, Some, is_some, option_and_then}
use Rattle.std.specs.List.{enumerate_from}
use Rattle.verb_bytes.specs.declared.journal.CycleAsk.{CycleAsk}
use Rattle.verb_core.specs.declared.item.Item.{Item}
use Rattle.verb_core.specs.declared.item.Shown.{Shown}
use Rattle.verb_core.specs.Step.{run, step}
use Rattle.paradox.specs.Answers.{broken}
use Rattle.paradox.specs.Words.{told_of}
use Rattle.paradox.specs.declared.reports.BrokenItem.{BrokenItem}
use Rattle.store_kept.specs.Kept.{Kept}
use Rattle.paradox.specs.declared.words.Reason.{Reason}
use Rattle.paradox.specs.declared.words.Reason.TheVariants.{Withdrawn}
use Rattle.repair_desk.specs.Repairs.{inserted, is_dropped, kept, repaired}

-- what stands before a later item: the items through the point, the acts that come in, and the earlier of the later items that
-- stay
abbrev pub items_before : Kept → ℕ → CycleAsk → ℕ → List Item → List Item
items_before s at ask place earlier = take place s.timeline ++ inserted s.next at ask.inserts ++ map (repaired ask s.next) (kept ask earlier)

-- what the item shows there, in its own step
abbrev pub own_answer : Kept → ℕ → CycleAsk → ℕ → List Item → Item → Shown
own_answer s at ask place earlier i = (step (run s.base (items_before s at ask place earlier)) (repaired ask s.next i)).1

-- why it is told of: it goes, or what it showed no longer holds
abbrev pub reason_at : Kept → ℕ → CycleAsk → ℕ → List Item → Item → Option Reason
reason_at s at ask place earlier i = if is_dropped ask i then Some Withdrawn else broken i (own_answer s at ask place earlier i)

-- what is told of it, if anything
abbrev pub telling_at : Kept → ℕ → CycleAsk → ℕ → List Item → Item → Option BrokenItem
telling_at s at ask place earlier i = option_and_then (told_of i) (reason_at s at ask place earlier i)

-- what is told of the later items, in their order, each by its own place among them
abbrev pub tellings : Kept → ℕ → CycleAsk → ℕ → List BrokenItem
tellings s at ask place = filter_map (λ (r : ℕ × Item). telling_at s at ask place (take r.0 (drop place s.timeline)) r.1) (enumerate_from 0 (drop place s.timeline))

-- the item afterwards: it shows what it shows there, where what it showed no longer holds
abbrev pub shown_at : Kept → ℕ → CycleAsk → ℕ → List Item → Item → Item
shown_at s at ask place earlier i =
    if is_some (broken (repaired ask s.next i) (own_answer s at ask place earlier i)) then record (repaired ask s.next i) { shown = own_answer s at ask place earlier i }
    else repaired ask s.next i
