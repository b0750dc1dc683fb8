-- What a repair leaves in memory, and what holds of it.
--
-- What was made of a store that is not the one to which the first items led is said too (`IsMadeFrom`). The items were performed
-- on it, and all parts are by that. Of a lying disk no more is claimed: neither the mail nor the report, the UIDs or the bound on
-- the steps, but that the desk goes on safely.
--
-- The items before the beginning stay where they are. What a cycle leaves (`Rewound`) has how many they are (`from`) and the
-- items behind them, and `items_left` says which timeline that is over the one before. So on a disk that is not honest the front
-- of what is kept is what was kept, and no copy.
use Rattle.std.specs.Prelude.{◌≡◌, ℕ, ◌<◌, ◌≤◌, ◌++◌, List, length, map, take}
use Rattle.std.specs.List.{AllByRecursion}
use Rattle.undo_base.specs.declared.limits.TheConstants.{LAST_NUMBER}
use Rattle.verb_core.specs.declared.item.Item.{Item}
use Rattle.verb_core.specs.declared.mailbox.BoxId.{BoxId}
use Rattle.verb_core.specs.declared.mailbox.Mailbox.{Mailbox}
use Rattle.verb_core.specs.Items.{IsTimeline}
use Rattle.verb_core.specs.Step.{run}
use Rattle.verb_core.specs.Store.{IsValid, MailStore}
use Rattle.stored_items.specs.Stored.{AllHeard}
use Rattle.store_kept.specs.Bases.{HasBase, StandsOn}
use Rattle.store_kept.specs.Kept.{Kept, origin_of}
use Rattle.mail_cycle.specs.declared.settling.Rewound.{Rewound}
use Rattle.cycle_rules.specs.Repairing.{Cycled, Repair}
use Rattle.mail_cycle.specs.Comparing.{reached_from, reworked_from}

-- the items in force that it leaves: the first ones of those before, and those behind them
abbrev pub items_left : List Item → Rewound → List Item
items_left before made = take made.from before ++ made.behind

-- all parts are those that are due, over the items in force before, and the store is the one to which it led
pub record LeavesAt (before : List Item) (after : MailStore) (due : Cycled) (made : Rewound) : Type 0 where
  pub place : made.place ≡ due.place
  pub timeline : items_left before made ≡ due.timeline
  pub placed : made.placed ≡ due.placed
  pub stamps : made.stamps ≡ due.stamps
  pub next : made.next ≡ due.next
  pub entered : made.entered ≡ due.entered
  pub report : made.report ≡ due.report
  pub store : made.store.store ≡ after
  pub valid : IsValid made.store.store

-- the same, where the store is what the whole timeline leads to
abbrev pub Leaves : Kept → Cycled → Rewound → Type 0
Leaves s due made = LeavesAt s.timeline (run s.base due.timeline) due made

-- From a beginning, a store and a count: the repaired items behind the first so many were performed on the store as they were
-- read. Only texts of deliveries may be others, and they are none where what is read is what was stored; the first so many are as
-- they were, and stay where they are. What is left is the repair over these items.
pub record IsMadeFrom (s : Kept) (at : ℕ) (repair : Repair) (first : MailStore) (count : ℕ) (honest : Type 0) (made : Rewound) : Type 0 where
  pub heard : List Item
  pub all : AllHeard repair.items heard
  pub same : honest → heard ≡ repair.items
  pub front : take count heard ≡ take count s.timeline
  pub from : made.from ≡ count
  pub leaves : LeavesAt s.timeline (reached_from s at repair first count heard) (reworked_from s at repair first count heard) made

-- The same from some beginning at or before the place. That is a valid store of the house, and the one to which the first so many
-- items led, where what is read is what was stored.
pub record IsMade (s : Kept) (at : ℕ) (repair : Repair) (honest : Type 0) (made : Rewound) : Type 0 where
  pub place : repair.place ≤ length s.timeline
  pub first : MailStore
  pub count : ℕ
  pub few : count ≤ repair.place
  pub valid : IsValid first
  pub house : first.house ≡ s.house
  pub led : honest → first ≡ run s.base (take count s.timeline)
  pub made_from : IsMadeFrom s at repair first count honest made

-- What is left can be gone on with. The items are a timeline with numbers below the next one; the stamps name the mailboxes and are below it too.
-- It has risen and is one that an item can have. And the items stand on what the store began with, if that carries those before.
pub record GoesOnAt (s : Kept) (after : MailStore) (due : Cycled) : Type 0 where
  pub timeline : IsTimeline s.house due.timeline
  pub below : AllByRecursion (λ (i : Item). i.number < due.next) due.timeline
  pub named : map (λ (r : BoxId × ℕ). r.0) due.stamps ≡ map (λ (r : BoxId × Mailbox). r.0) after.boxes
  pub fresh : AllByRecursion (λ (r : BoxId × ℕ). r.1 < due.next) due.stamps
  pub rises : s.next < due.next
  pub next : due.next ≤ LAST_NUMBER
  pub base : HasBase s → StandsOn (origin_of s) due.timeline

-- the same, where the store is what the whole timeline leads to
abbrev pub GoesOn : Kept → Cycled → Type 0
GoesOn s due = GoesOnAt s (run s.base due.timeline) due
