-- Items, kept so that they can be looked up by number.
use Rattle.std.specs.Prelude.{◌≡◌, ℕ, List, Option, option_and_then, slice_get}
use Rattle.std.specs.BTreeMap.{BTreeMap, get}
use Rattle.std.specs.Ordering.{nat_cmp}
use Rattle.verb_core.specs.declared.item.Item.{Item}
use Rattle.withdraw.specs.Unediting.{item_of}

-- the item at a place, if a place is given
abbrev pub item_at : List Item → Option ℕ → Option Item
item_at items place = option_and_then (slice_get items) place

-- beside each number stands the place of its item
abbrev pub LeadTo : List Item → BTreeMap ℕ ℕ → Type 0
LeadTo items places = (n : ℕ) → item_at items (get nat_cmp places n) ≡ item_of items n
