-- The desk: a store and the items in force, and each item that is performed is one of them from then on.
use Rattle.std.specs.Prelude.{◌≡◌, ℕ, ◌<◌, ◌≤◌, [], map, Option, Result, Ok, Err, IsTrue}
use Rattle.std.specs.List.{AllByRecursion, list_all}
use Rattle.undo_base.specs.declared.limits.TheConstants.{END_OF_NUMBERS}
use Rattle.undo_base.specs.declared.keys.User.{User}
use Rattle.verb_core.specs.declared.ask.Ask.{Ask}
use Rattle.verb_core.specs.declared.ask.Refused.{Refused}
use Rattle.verb_core.specs.declared.ask.SubmitFault.{SubmitFault}
use Rattle.verb_core.specs.declared.ask.SubmitFault.TheVariants.{Refused as IsRefused}
use Rattle.verb_core.specs.declared.item.Item.{Item}
use Rattle.verb_core.specs.declared.mailbox.BoxId.{BoxId}
use Rattle.verb_core.specs.declared.mailbox.Mailbox.{Mailbox}
use Rattle.verb_core.specs.Items.{IsWellFormed, NumbersApart}
use Rattle.verb_core.specs.Store.{IsValid, is_house, is_known}
use Rattle.store_kept.specs.Bases.{HasBase}
use Rattle.store_kept.specs.Coming.{HasUndone}
use Rattle.store_kept.specs.Kept.{Kept, is_by_key, performed, store_of}
use Rattle.store_kept.specs.Texts.{all_bodies, has_text_kept}
use Rattle.verb_core.specs.Live.{live}

-- a store that is kept beside the items in force
pub record IsDesk (kept : Kept) : Type 0 where
  pub house : IsTrue (is_house kept.house)
  pub aliases : IsTrue (list_all (λ a. list_all (is_known kept.house) a.users) kept.opening.aliases)
  pub filters : kept.opening.filters ≡ []
  pub base : HasBase kept
  pub house_is : kept.store.house ≡ kept.house
  pub valid : IsValid kept.store
  pub next : kept.next ≤ END_OF_NUMBERS
  pub since : kept.marks.since ≤ kept.next
  pub stamps : map (λ (r : BoxId × ℕ). r.0) kept.stamps ≡ map (λ (r : BoxId × Mailbox). r.0) kept.store.boxes
  pub fresh : AllByRecursion (λ (r : BoxId × ℕ). r.1 < kept.next) kept.stamps
  pub formed : AllByRecursion (IsWellFormed kept.house) kept.timeline
  pub apart : NumbersApart kept.timeline
  pub below : AllByRecursion (λ (i : Item). i.number < kept.next) kept.timeline
  pub reports : IsTrue (is_by_key kept.reports)
  pub texts : IsTrue (all_bodies (has_text_kept kept) kept.store.boxes)
  pub undone : HasUndone kept

-- what became of an ask: the item or why there is none, and what is kept
pub record Submitted : Type 0 where
  pub outcome : Result Item SubmitFault
  pub kept : Kept

abbrev pub submitted_as : Kept → Result Item Refused → Submitted
submitted_as kept (Ok item) = record { outcome = Ok item; kept = performed kept item }
submitted_as kept (Err why) = record { outcome = Err (IsRefused why); kept = kept }

-- an ask at a moment
abbrev pub submitted : Kept → ℕ → Option User → Ask → Submitted
submitted kept at by ask = submitted_as kept (live (store_of kept) kept.next at by ask kept.deep)
