-- The base: the store before the first item, on which the items in force stand, and the texts that come with it.
--
-- Every definition of a cycle begins with the base, a field of what is kept: a journal that was cut begins with another than the
-- opening store. What a desk's invariant says of it is that it carries what is kept (`HasBase`), not that it is the opening
-- store. A law says that of each journal of which nothing was cut off (`states_are_sound`, `opening`).
use Rattle.std.specs.Prelude.{◌≡◌, ◌≢◌, ℕ, ◌≤◌, List, is_some, IsTrue}
use Rattle.std.specs.List.{AllByRecursion}
use Rattle.verb_core.specs.declared.item.Item.{Item}
use Rattle.verb_core.specs.declared.mailbox.Body.{Body}
use Rattle.verb_core.specs.Fates.{IsBase, IsFresh}
use Rattle.store_kept.specs.Kept.{Kept, Origin, origin_of}
use Rattle.store_kept.specs.Texts.{all_bodies, text_before}

-- A number is new to what a store in use begins with: no message of the base is of an item of that number, and no text that comes
-- with the base.
pub record IsNew (origin : Origin) (number : ℕ) : Type 0 where
  pub fresh : IsFresh number origin.base
  pub unnamed : AllByRecursion (λ (r : Body × List ℕ). r.0.origin ≢ number) origin.texts

-- items stand on it: they can stand on the base, and the number of each is new
pub record StandsOn (origin : Origin) (timeline : List Item) : Type 0 where
  pub base : IsBase timeline origin.base
  pub new : AllByRecursion (λ (i : Item). IsNew origin i.number) timeline

-- What a store in use begins with carries items, and those that come with numbers from the next one on. The base is of the house, and
-- the items can stand on it: it is valid, with the mailboxes that each user has, with each message once. Their numbers are new, and
-- so is each to come; numbers are drawn from no higher one than the next. And the text of each body in the base comes with it.
pub record Carries (origin : Origin) (timeline : List Item) (next : ℕ) : Type 0 where
  pub house_is : origin.base.house ≡ origin.house
  pub stands : IsBase timeline origin.base
  pub new : AllByRecursion (λ (i : Item). IsNew origin i.number) timeline
  pub beyond : (number : ℕ) → next ≤ number → IsNew origin number
  pub drawn : origin.first ≤ next
  pub texts : IsTrue (all_bodies (λ (body : Body). is_some (text_before origin.texts body)) origin.base.boxes)

-- it carries what is kept
abbrev pub HasBase : Kept → Type 0
HasBase kept = Carries (origin_of kept) kept.timeline kept.next
