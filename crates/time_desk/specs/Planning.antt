-- What could be done side by side, of the items later than a point.
use Rattle.std.specs.Prelude.{◌≡◌, ◌⊎◌, ℕ, false, List, [], ◌∷◌, map, take, drop, Option, Some, None, option_map, Result, Ok, Err, IsSome, IsTrue}
use Rattle.undo_outside.specs.Disk.{DiskTold, ReadFailed}
use Rattle.verb_core.specs.declared.bodies.BodiesFault.{BodiesFault}
use Rattle.verb_core.specs.declared.bodies.BodiesFault.TheVariants as bodies_faults
use Rattle.verb_core.specs.declared.item.Item.{Item}
use Rattle.verb_core.specs.declared.item.Resolved.{Resolved}
use Rattle.verb_core.specs.Aims.{sought_by}
use Rattle.verb_core.specs.Step.{run, step}
use Rattle.verb_core.specs.Store.{MailStore}
use Rattle.store_kept.specs.Kept.{Kept}
use Rattle.repair_desk.specs.Repairs.{numbers_of, position}
use Rattle.touch_rules.specs.Table.{touches_of}
use Rattle.replay_plan.specs.Lines.{text_of_levels}
use Rattle.replay_plan.specs.Placing.{levels_of}
use Rattle.time_desk.specs.Replaying.{plan_reads, reads_behind}
use Rattle.time_desk.specs.declared.fault.CycleFault.{CycleFault}
use Rattle.time_desk.specs.declared.fault.CycleFault.TheVariants.{Point, Numbers, Disk, NoMemory, Closed}

-- an item with the mailboxes that its mail goes to on a store, and those that are looked for there in vain
abbrev pub resolved_on : MailStore → Item → Resolved
resolved_on s i = record { item = i; aims = (sought_by s i).aims; missed = (sought_by s i).missed }

-- items, each resolved on the store that it is performed on, the first of them on this one
abbrev pub resolved : MailStore → List Item → List Resolved
resolved s [] = []
resolved s (i ∷ later) = resolved_on s i ∷ resolved (step s i).0 later

-- the plan of items that are performed on a store: which of their numbers could stand in one level
abbrev pub plan_from : MailStore → List Item → List ℕ
plan_from s later = text_of_levels (levels_of (map touches_of (resolved s later))) (numbers_of later)

-- the plan of the items behind a place of the timeline
abbrev pub plan_at : Kept → ℕ → List ℕ
plan_at kept place = plan_from (run kept.base (take place kept.timeline)) (drop place kept.timeline)

-- the plan of the items later than a point, where the timeline has it
abbrev pub plan_of : Kept → ℕ → Option (List ℕ)
plan_of kept point = option_map (plan_at kept) (position kept.timeline point)

-- the timeline has the point; and where the texts are told as they were stored, or nothing is to be read, this is the plan of the items
-- later than it
abbrev pub Plans : Kept → ℕ → Type 0 → List ℕ → Type 0
Plans kept point told text = (place : ℕ) × (position kept.timeline point ≡ Some place) × (told ⊎ (reads_behind kept place ≡ false) → text ≡ plan_at kept place)

-- a read failed exactly where that is why there is no answer
abbrev pub BodiesCause : {T : Type 0} → DiskTold → DiskTold → Result T BodiesFault → Type 0
BodiesCause old new (Ok x) = new.failed_reads ≡ old.failed_reads
BodiesCause old new (Err bodies_faults.Failed) = ReadFailed old new
BodiesCause old new (Err bodies_faults.NoMemory) = new.failed_reads ≡ old.failed_reads

-- Why no plan is told: the timeline does not have the point, exactly where it says so. Where it has it a read may have failed,
-- exactly where it says so, if something is to be read; and want of memory is free.
abbrev pub PlansNone : Kept → ℕ → DiskTold → DiskTold → CycleFault → Type 0
PlansNone kept point old new (Point given) = (position kept.timeline point ≡ None) × (given ≡ point) × (new.failed_reads ≡ old.failed_reads)
PlansNone kept point old new (Numbers next) = ⊥
PlansNone kept point old new Disk = IsTrue (plan_reads kept point) × ReadFailed old new
PlansNone kept point old new NoMemory = IsSome (position kept.timeline point) × (new.failed_reads ≡ old.failed_reads)
PlansNone kept point old new Closed = ⊥
