-- An item without its text, as it is kept in memory, and with a text that was read.
use Rattle.std.specs.Prelude.{◌≡◌, ℕ, Bool, true, false, not, ◌&&◌, List, [], ◌∷◌}
use Rattle.verb_core.specs.declared.item.Deed.{Deed}
use Rattle.verb_core.specs.declared.item.Deed.TheVariants.{Deliver, Notice}
use Rattle.verb_core.specs.declared.item.Item.{Item}
use Rattle.verb_core.specs.Deeds.{with_text}
use Rattle.verb_core.specs.Names.{is_empty}
pub use Rattle.verb_core.specs.Step.{step_text}
use Rattle.verb_core.specs.Store.{MailStore}

-- a deed as it is kept in memory: without its text, but for a notice's, which no record holds
abbrev pub stored_deed : Deed → Deed
stored_deed (Notice user text) = Notice user text
stored_deed d = with_text [] d

abbrev pub stored : Item → Item
stored i = record i { deed = stored_deed i.deed }

-- an item with a text, where it has one
abbrev pub whole : Item → List ℕ → Item
whole i text = record i { deed = with_text text i.deed }

-- whether performing the deed looks at its text: a delivery's filters do, and nothing else
abbrev pub needs_text : Deed → Bool
needs_text (Deliver from to text) = true
needs_text _ = false

-- whether it does so in this store: where no filter is in force, nothing does
abbrev pub looks_at_text : MailStore → Deed → Bool
looks_at_text s d = needs_text d && not (is_empty s.conf.filters)

-- an item as it was read: only the text of a delivery may be another
pub record IsHeard (i h : Item) : Type 0 where
  pub stored_is : stored h ≡ stored i
  pub same : needs_text i.deed ≡ false → h ≡ i

-- items as they were read, in order
abbrev pub AllHeard : List Item → List Item → Type 0
AllHeard [] [] = Unit {0}
AllHeard (i ∷ items) (h ∷ heard) = IsHeard i h × AllHeard items heard
AllHeard items heard = ⊥
