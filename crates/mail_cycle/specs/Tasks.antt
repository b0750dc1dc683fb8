-- What is to be performed again: a repair of a timeline, at a moment.
use Rattle.std.specs.Prelude.{◌≡◌, ℕ, ◌+◌, ◌≤◌, List, [], ◌++◌, drop, take, length, Some, IsTrue}
use Rattle.std.specs.List.{AllByRecursion}
use Rattle.undo_base.specs.declared.limits.TheConstants.{LAST_MOMENT}
use Rattle.verb_core.specs.declared.item.Item.{Item}
use Rattle.verb_core.specs.Items.{IsTimeline, IsWellFormed}
use Rattle.verb_core.specs.Store.{IsValid}
use Rattle.verb_bytes.specs.declared.journal.CycleAsk.{CycleAsk}
use Rattle.withdraw.specs.declared.undone.UndoneBehind.{UndoneBehind}
use Rattle.store_kept.specs.Bases.{HasBase, IsNew}
use Rattle.store_kept.specs.Kept.{Kept, origin_of}
use Rattle.repair_desk.specs.declared.editing.EditedBehind.{EditedBehind}
use Rattle.repair_desk.specs.Repairs.{position}
use Rattle.cycle_rules.specs.Asking.{Rewinds, due_anew}
use Rattle.cycle_rules.specs.Cycles.{cycled_at, repair_of}
use Rattle.cycle_rules.specs.Repairing.{Repair, leaves_numbers_for}
use Rattle.cycle_rules.specs.Withdrawals.{unedit_of}
use Rattle.mail_cycle.specs.declared.beginning.Beginning.{Beginning}
use Rattle.mail_cycle.specs.declared.due.Work.{Work}
use Rattle.mail_cycle.specs.declared.due.Work.TheVariants.{Asked, Restored}
use Rattle.mail_cycle.specs.Begun.{IsBegun}

-- of what is kept, at a moment, a repair, and the texts that it brings by the numbers of their items
pub record Task : Type 0 where
  pub kept : Kept
  pub at : ℕ
  pub repair : Repair
  pub texts : List (ℕ × List ℕ)

-- the repair that puts these items behind the first ones, which stay: no act comes in, and none goes
abbrev pub restoring : ℕ → ℕ → List Item → List Item → Repair
restoring place point front later = record {
  place = place;
  items = front ++ later;
  acts = 0;
  before = later;
  drops = [];
  point = point;
  kept = length later;
  unmatched = [];
}

-- by what is asked
abbrev pub repair_by : Kept → ℕ → ℕ → Work → Repair
repair_by s at place (Asked ask) = repair_of s at ask.now place
repair_by s at place (Restored later point) = restoring place point (take place s.timeline) later

abbrev pub texts_by : Work → List (ℕ × List ℕ)
texts_by (Asked ask) = ask.now.replaces
texts_by (Restored later point) = []

abbrev pub task_by : Kept → ℕ → ℕ → Work → Task
task_by s at place work = record { kept = s; at = at; repair = repair_by s at place work; texts = texts_by work }

-- the cycle that is asked for behind a place
abbrev pub asked_task : Kept → ℕ → CycleAsk → ℕ → Task
asked_task s at ask place = record { kept = s; at = at; repair = repair_of s at ask place; texts = ask.replaces }

-- the withdrawal of what the last cycle left: its items are those that come back, behind the cycle's point
abbrev pub withdrawal_task : Kept → ℕ → UndoneBehind → Task
withdrawal_task s at last = record { kept = s; at = at; repair = unedit_of s last; texts = [] }

-- the items behind the first so many, and what is told of the repair
pub record IsBehind (repair : Repair) (from : ℕ) (behind : EditedBehind) : Type 0 where
  pub items : behind.items ≡ drop from repair.items
  pub kept : behind.kept ≡ repair.kept
  pub unmatched : behind.unmatched ≡ repair.unmatched

-- What holds of each: the first items stay, those that are performed are well formed, and numbers are left.
pub record IsTask (t : Task) : Type 0 where
  pub begun : IsBegun t.kept
  pub moment : t.at ≤ LAST_MOMENT
  pub numbers : IsTrue (leaves_numbers_for t.kept t.repair.acts)
  pub place : t.repair.place ≤ length t.kept.timeline
  pub front : take t.repair.place t.repair.items ≡ take t.repair.place t.kept.timeline
  pub formed : AllByRecursion (IsWellFormed t.kept.house) t.repair.items
  pub long : length t.repair.items ≡ t.repair.place + t.repair.acts + t.repair.kept

-- it is a cycle that is due at a moment under a new key
pub record IsCycle (s : Kept) (at : ℕ) (ask : CycleAsk) (t : Task) : Type 0 where
  pub place : ℕ
  pub is_place : position s.timeline ask.point ≡ Some place
  pub task : t ≡ asked_task s at ask place
  pub due : due_anew s at ask ≡ Rewinds (cycled_at s at ask place)

-- it can be begun with this: a valid store of the house, for items that stay
pub record Begins (t : Task) (first : Beginning) : Type 0 where
  pub valid : IsValid first.store.store
  pub house : first.store.store.house ≡ t.kept.house
  pub few : first.count ≤ t.repair.place

-- What it leaves can be gone on with, if what is kept could be. The items are a timeline, with numbers up to those of the acts, which
-- are new to what the store began with.
pub record GoesWith (s : Kept) (repair : Repair) : Type 0 where
  pub timeline : IsTimeline s.house repair.items
  pub low : AllByRecursion (λ (i : Item). i.number ≤ s.next + repair.acts) repair.items
  pub base : HasBase s → AllByRecursion (λ (i : Item). IsNew (origin_of s) i.number) repair.items
