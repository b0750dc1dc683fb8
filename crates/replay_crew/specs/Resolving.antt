-- Items that were resolved: each with the aims that it finds when its turn comes.
use Rattle.std.specs.Prelude.{◌≡◌, List, map}
use Rattle.verb_core.specs.declared.item.Item.{Item}
use Rattle.verb_core.specs.declared.item.Resolved.{Resolved}
use Rattle.verb_core.specs.Store.{MailStore}
use Rattle.stored_items.specs.Stored.{stored}
use Rattle.replay_crew.specs.Orders.{SoughtItem, turns, AreWellFormed}

-- what an item that was resolved is performed with
abbrev pub turn_of : Resolved → SoughtItem
turn_of r = (record { aims = r.aims; missed = r.missed }, r.item)

-- a turn whose item is kept without its text, but for a notice's
abbrev pub stored_turn : SoughtItem → SoughtItem
stored_turn t = (t.0, stored t.1)

-- resolved from a timeline's items: each with the aims that it finds when its turn comes, where the first comes on this store
pub record AreResolvedFrom (s : MailStore) (items : List Item) (all : List Resolved) : Type 0 where
  pub formed : AreWellFormed s.house items
  pub turns_are : map turn_of all ≡ map stored_turn (turns s items)

-- some timeline's
abbrev pub AreResolved : MailStore → List Resolved → Type 0
AreResolved s all = (items : List Item) × AreResolvedFrom s items all
