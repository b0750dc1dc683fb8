-- The operator's repairs of a timeline: acts that come in behind a point, and later items that go or get another text.
use Rattle.std.specs.Prelude.{ℕ, ◌+◌, Bool, not, ◌&&◌, ◌==◌, if◌then◌else◌, List, [], ◌∷◌, ◌++◌, map, reverse, filter, find, take, drop, length, Option, Some, None, is_some, option_map}
use Rattle.std.specs.List.{list_all, list_any, position_from}
use Rattle.verb_core.specs.declared.conf.House.{House}
use Rattle.verb_core.specs.declared.item.Act.{Act}
use Rattle.verb_core.specs.declared.item.Item.{Item}
use Rattle.verb_core.specs.declared.item.Deed.{Deed}
use Rattle.verb_core.specs.declared.item.Deed.TheVariants.{Act as Acts}
use Rattle.verb_core.specs.Deeds.{act_item, is_notice, with_text}
use Rattle.verb_core.specs.Items.{text_in, users_in}
use Rattle.verb_core.specs.Store.{is_known}
use Rattle.verb_bytes.specs.declared.journal.CycleAsk.{CycleAsk}
use Rattle.repair_desk.specs.declared.editing.Edited.{Edited}
use Rattle.repair_desk.specs.declared.editing.EditedBehind.{EditedBehind}

-- how many items stand through a point: none through 0, else those through the item of that number, if there is one
abbrev pub position : List Item → ℕ → Option ℕ
position t point = if point == 0 then Some 0 else position_from (λ (i : Item). i.number == point) 1 t

-- whether a number is one of these
abbrev pub is_among : List ℕ → ℕ → Bool
is_among numbers number = list_any (λ n. number == n) numbers

-- the numbers of items
abbrev pub numbers_of : List Item → List ℕ
numbers_of t = map (λ (i : Item). i.number) t

-- ---- what comes in

-- whether all users that acts name are those of the house
abbrev pub are_known : House → List Act → Bool
are_known house acts = list_all (λ (act : Act). list_all (is_known house) (users_in (Acts act))) acts

-- acts as items of a moment, with the numbers behind the given one
abbrev pub inserted : ℕ → ℕ → List Act → List Item
inserted number at [] = []
inserted number at (act ∷ acts) = act_item (number + 1) at act ∷ inserted (number + 1) at acts

-- ---- what gets another text

-- the text that is asked for an item of a number: of two, the last
abbrev pub text_asked : List (ℕ × List ℕ) → ℕ → Option (List ℕ)
text_asked replaces number = option_map (λ (r : ℕ × List ℕ). r.1) (find (λ (r : ℕ × List ℕ). r.0 == number) (reverse replaces))

-- whether the deed has a text that can be replaced: all but a notice's
abbrev pub takes_text : Deed → Bool
takes_text deed = is_some (text_in deed) && not (is_notice deed)

-- the item with a text that is asked for, under the rev c, where it can have one
abbrev pub replaced_by : ℕ → Item → Option (List ℕ) → Item
replaced_by c i None = i
replaced_by c i (Some text) = if takes_text i.deed then record i { rev = c; deed = with_text text i.deed } else i

abbrev pub repaired : CycleAsk → ℕ → Item → Item
repaired ask c i = replaced_by c i (text_asked ask.replaces i.number)

-- ---- what goes and what stays

-- whether the item is to go
abbrev pub is_dropped : CycleAsk → Item → Bool
is_dropped ask i = is_among ask.drops i.number

-- whether the item stays, with another text
abbrev pub is_replaced : CycleAsk → Item → Bool
is_replaced ask i = not (is_dropped ask i) && takes_text i.deed && is_some (text_asked ask.replaces i.number)

-- of later items, those that go, those that stay, and those that stay with another text
abbrev pub dropped : CycleAsk → List Item → List Item
dropped ask later = filter (is_dropped ask) later

abbrev pub kept : CycleAsk → List Item → List Item
kept ask later = filter (λ i. not (is_dropped ask i)) later

abbrev pub replaced : CycleAsk → List Item → List Item
replaced ask later = filter (is_replaced ask) later

-- those that go and that a user made
abbrev pub withdrawn : CycleAsk → List Item → List Item
withdrawn ask later = filter (λ i. is_some i.by) (dropped ask later)

-- the numbers that are none of these, in their order
abbrev pub missing : List ℕ → List ℕ → List ℕ
missing met numbers = filter (λ n. not (is_among met n)) numbers

-- the asked numbers that did nothing, in the order asked, those of items that should go first
abbrev pub unmatched : CycleAsk → List Item → List ℕ
unmatched ask later =
    missing (numbers_of (dropped ask later)) ask.drops
    ++ missing (numbers_of (replaced ask later)) (map (λ (r : ℕ × List ℕ). r.0) ask.replaces)

-- ---- the whole

-- the timeline through a place, the acts that come in, and the later items that stay
abbrev pub new_timeline : List Item → CycleAsk → ℕ → ℕ → ℕ → List Item
new_timeline t ask c at place = take place t ++ inserted c at ask.inserts ++ map (repaired ask c) (kept ask (drop place t))

abbrev pub edited_at : List Item → CycleAsk → ℕ → ℕ → ℕ → Edited
edited_at t ask c at place = record {
  items = new_timeline t ask c at place;
  kept = length (kept ask (drop place t));
  withdrawn = withdrawn ask (drop place t);
  unmatched = unmatched ask (drop place t);
}

-- the same behind the first so many items, without those that go
abbrev pub edited_behind : List Item → CycleAsk → ℕ → ℕ → ℕ → ℕ → EditedBehind
edited_behind t ask c at from place = record {
  items = drop from (new_timeline t ask c at place);
  kept = length (kept ask (drop place t));
  unmatched = unmatched ask (drop place t);
}

-- the repairs of the cycle c at a moment, where the timeline has the point
abbrev pub edited : List Item → CycleAsk → ℕ → ℕ → Option Edited
edited t ask c at = option_map (edited_at t ask c at) (position t ask.point)
