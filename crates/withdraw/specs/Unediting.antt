-- Taking a cycle back: the timeline before it, whose items show what they show at present, and the items that came after it.
use Rattle.std.specs.Prelude.{ℕ, ◌==◌, List, ◌++◌, map, find, take, drop, Option, Some, None, option_map}
use Rattle.verb_core.specs.declared.item.Item.{Item}
use Rattle.verb_core.specs.declared.item.Shown.{Shown}
use Rattle.verb_core.specs.declared.item.Shown.TheVariants.{Nothing}
use Rattle.withdraw.specs.declared.undone.Undone.{Undone}
use Rattle.withdraw.specs.declared.undone.UndoneBehind.{UndoneBehind}

-- ---- what is shown at present

-- the item of a number, if one is there
abbrev pub item_of : List Item → ℕ → Option Item
item_of present number = find (λ (i : Item). i.number == number) present

-- what it shows
abbrev pub shown_among : List Item → ℕ → Option Shown
shown_among present number = option_map (λ (i : Item). i.shown) (item_of present number)

-- an item that shows this, where there is something
abbrev pub showing : Item → Option Shown → Item
showing i None = i
showing i (Some shown) = record i { shown = shown }

-- An item as it is shown at present. One that is there shows what it shows there, with its own text and rev; one that is not
-- there shows what it had shown.
abbrev pub as_shown : List Item → Item → Item
as_shown present i = showing i (shown_among present i.number)

-- ---- the whole

-- the timeline before the cycle as it is shown at present, and the present items behind the first `placed`
abbrev pub unedited : List Item → Undone → List Item
unedited present last = map (as_shown present) last.before ++ drop last.placed present

-- an item but for what it shows
abbrev pub unshown : Item → Item
unshown i = record i { shown = Nothing }

-- ---- by what stood behind the point alone, for the items through it are at present what they were

-- the timeline before the cycle
abbrev pub before_of : List Item → UndoneBehind → List Item
before_of present last = take last.position present ++ last.later

-- all that is known of it
abbrev pub whole_of : List Item → UndoneBehind → Undone
whole_of present last = record { cycle = last.cycle; before = before_of present last; position = last.position; placed = last.placed }

-- the timeline without the cycle: those that stood behind the point are looked for behind it
abbrev pub unedited_behind : List Item → UndoneBehind → List Item
unedited_behind present last =
    take last.position present ++ map (as_shown (drop last.position present)) last.later ++ drop last.placed present
