-- The items through the place of a repair, performed as they were read, what becomes of those behind it, and what comes of them all.
use Rattle.std.specs.Prelude.{◌≡◌, ℕ, ◌+◌, ◌-◌, ◌≤◌, ◌++◌, List, drop, length, take, Result, IfOk, OnErr}
use Rattle.std.specs.List.{AllByRecursion}
use Rattle.undo_base.specs.declared.memory.NoMemory.{NoMemory}
use Rattle.verb_core.specs.declared.bodies.BodiesFault.{BodiesFault}
use Rattle.verb_core.specs.declared.item.Item.{Item}
use Rattle.verb_core.specs.Items.{IsWellFormed}
use Rattle.verb_core.specs.Step.{answers, run}
use Rattle.verb_core.specs.Store.{IsValid, MailStore}
use Rattle.verb_core.specs.Texts.{BodiesTold, StaysTold}
use Rattle.stored_items.specs.Stored.{AllHeard}
use Rattle.replay_crew.specs.Hearing.{CountsTextReads, HoldsOf, StoresOf}
use Rattle.cycle_rules.specs.Repairing.{reworked}
use Rattle.mail_cycle.specs.declared.beginning.Beginning.{Beginning}
use Rattle.mail_cycle.specs.declared.cycling.AtPoint.{AtPoint}
use Rattle.mail_cycle.specs.declared.running.Replayed.{Replayed}
use Rattle.mail_cycle.specs.declared.settling.Repairs.{Repairs}
use Rattle.mail_cycle.specs.declared.settling.Rewound.{Rewound}
use Rattle.mail_cycle.specs.Comparing.{reached_from, reworked_from}
use Rattle.mail_cycle.specs.Leaving.{IsMadeFrom, Leaves, LeavesAt}
use Rattle.mail_cycle.specs.Tasks.{Task}

-- what is told of a repair, of which so many of the first items stay where they are
pub record AreRepairs (t : Task) (repairs : Repairs) : Type 0 where
  pub from : repairs.from ≤ t.repair.place
  pub kept : repairs.kept ≡ t.repair.kept
  pub unmatched : repairs.unmatched ≡ t.repair.unmatched

-- the first of these items were performed on a store, and the others are left
pub record Passes (first : MailStore) (items : List Item) (count : ℕ) (honest : Type 0) (there : AtPoint) : Type 0 where
  pub heard : AllHeard (take count items) there.items
  pub same : honest → there.items ≡ take count items
  pub store : there.store.store ≡ run first there.items
  pub valid : IsValid there.store.store
  pub later : there.later ≡ drop count items

-- the repaired items behind a beginning and through the place were performed, and the others are left, whose texts can be read
pub record IsAtPoint (t : Task) (first : Beginning) (old new : BodiesTold) (there : AtPoint) : Type 0 where
  pub heard : AllHeard (take t.repair.place t.repair.items) (take first.count t.kept.timeline ++ there.items)
  pub same : old.honest → take first.count t.kept.timeline ++ there.items ≡ take t.repair.place t.repair.items
  pub store : there.store.store ≡ run first.store.store there.items
  pub valid : IsValid there.store.store
  pub house : there.store.store.house ≡ t.kept.house
  pub later : there.later ≡ drop t.repair.place t.repair.items
  pub formed : AllByRecursion (IsWellFormed there.store.store.house) there.later
  pub held : AllByRecursion (HoldsOf new) there.later
  pub stored : old.honest → AllByRecursion (StoresOf new) there.later
  pub repairs : AreRepairs t there.repairs
  pub from : there.repairs.from ≡ first.count

-- those behind it were replayed on a store
pub record IsReplayed (before : MailStore) (items : List Item) (alike : Type 0) (made : Replayed) : Type 0 where
  pub heard : AllHeard items made.items
  pub same : alike → made.items ≡ items
  pub store : made.store.store ≡ run before made.items
  pub valid : IsValid made.store.store
  pub shows : made.shows ≡ answers before made.items

-- What is left of items that were performed from some store on, behind the first so many, which stay: the repair over these items.
pub record Settles (t : Task) (stay : ℕ) (items : List Item) (replayed : Replayed) (result : Result Rewound NoMemory) : Type 0 where
  pub from : IfOk result (λ made. made.from ≡ stay)
  pub made : (first : MailStore) → replayed.store.store ≡ run first items → replayed.shows ≡ drop (t.repair.place - stay) (answers first items)
      → IfOk result (LeavesAt t.kept.timeline (reached_from t.kept t.at t.repair first stay (take stay t.kept.timeline ++ items)) (reworked_from t.kept t.at t.repair first stay (take stay t.kept.timeline ++ items)))

-- What comes of a repair from a beginning. What is left was made from it, of the items as they were read: where that is as they were
-- stored, and the first items led to its store, it is what the repair leaves. Each item behind the beginning is a step at most, also
-- where there is no repair after all. The texts were read alone, which left what they are read from as it may be (`led`).
pub record ReworksFrom (led : Type 0) (t : Task) (first : Beginning) (old new : BodiesTold) (before after : ℕ) (result : Result Rewound BodiesFault) : Type 0 where
  pub made : IfOk result (IsMadeFrom t.kept t.at t.repair first.store.store first.count old.honest)
  pub whole : old.honest → first.store.store ≡ run t.kept.base (take first.count t.kept.timeline) → IfOk result (Leaves t.kept (reworked t.kept t.at t.repair))
  pub steps : IfOk result (λ made. after ≤ before + (t.repair.place - first.count) + t.repair.acts + made.report.kept + length made.report.notices)
  pub most : OnErr result (after ≤ before + (t.repair.place - first.count) + t.repair.acts + t.repair.kept + length t.kept.house.accounts)
  pub reads : CountsTextReads old new result
  pub stays : StaysTold old new
  pub leads : led
