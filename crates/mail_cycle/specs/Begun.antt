-- What holds of a store in use, and of what is kept of it.
use Rattle.std.specs.Prelude.{◌≡◌, ℕ, ◌≤◌, map, IsTrue}
use Rattle.std.specs.List.{AllByRecursion}
use Rattle.undo_base.specs.declared.limits.TheConstants.{END_OF_NUMBERS}
use Rattle.verb_core.specs.declared.mailbox.BoxId.{BoxId}
use Rattle.verb_core.specs.declared.mailbox.Mailbox.{Mailbox}
use Rattle.verb_core.specs.Items.{IsWellFormed}
use Rattle.verb_core.specs.Store.{IsValid, is_house}
use Rattle.store_kept.specs.Kept.{Kept}

-- what holds of every store in use
pub record IsBegun (s : Kept) : Type 0 where
  pub valid : IsValid s.store
  pub house : IsTrue (is_house s.house)
  pub formed : AllByRecursion (IsWellFormed s.house) s.timeline
  pub stamps : map (λ (r : BoxId × ℕ). r.0) s.stamps ≡ map (λ (r : BoxId × Mailbox). r.0) s.store.boxes
  pub next : s.next ≤ END_OF_NUMBERS
