-- What users were shown, against what the same items show when they are performed once more.
use Rattle.std.specs.Prelude.{ℕ, if◌then◌else◌, zero, suc, List, [], ◌∷◌, drop, is_some, Option, Some, None, option_and_then}
use Rattle.std.specs.List.{cons_option}
use Rattle.verb_core.specs.declared.item.Item.{Item}
use Rattle.verb_core.specs.declared.item.Shown.{Shown}
use Rattle.paradox.specs.Answers.{broken}
use Rattle.paradox.specs.Words.{told_of}
use Rattle.paradox.specs.declared.reports.BrokenItem.{BrokenItem}
use Rattle.paradox.specs.declared.words.Reason.{Reason}
use Rattle.paradox.specs.declared.words.Reason.TheVariants.{Withdrawn}
use Rattle.repair_desk.specs.Repairs.{is_among}

-- an item that is told of for a reason, if there is one, before others
abbrev pub with_told : Item → Option Reason → List BrokenItem → List BrokenItem
with_told i reason list = cons_option (option_and_then (told_of i) reason) list

-- why what an item showed no longer holds: it shows the first of these answers now
abbrev pub reason_by : Item → List Shown → Option Reason
reason_by i [] = None
reason_by i (now ∷ rest) = broken i now

-- The broken and the withdrawn among later items, in their order: those of the numbers went, and each other one has its
-- answer in the list.
abbrev pub judged : List ℕ → List Item → List Shown → List BrokenItem
judged drops [] now = []
judged drops (i ∷ is) now =
    if is_among drops i.number then with_told i (Some Withdrawn) (judged drops is now)
    else with_told i (reason_by i now) (judged drops is (drop 1 now))

-- an item that shows the first of these answers now: what it showed is what it shows, unless that no longer holds
abbrev pub shown_by : Item → List Shown → Item
shown_by i [] = i
shown_by i (now ∷ rest) = if is_some (broken i now) then record i { shown = now } else i

-- the items with their answers: the first so many are never compared, and the answers are those of the others
abbrev pub shown_after : ℕ → List Item → List Shown → List Item
shown_after front [] now = []
shown_after zero (i ∷ is) now = shown_by i now ∷ shown_after zero is (drop 1 now)
shown_after (suc front) (i ∷ is) now = i ∷ shown_after front is now
