-- Why there is no cycle.
use Rattle.std.specs.Prelude.{◌≡◌, ℕ}
use Rattle.verb_core.specs.declared.bodies.BodiesFault.{BodiesFault}
use Rattle.verb_core.specs.declared.bodies.BodiesFault.TheVariants as bodies_faults
use Rattle.verb_bytes.specs.declared.journal.CycleAsk.{CycleAsk}
use Rattle.store_kept.specs.Kept.{Kept}
use Rattle.mail_cycle.specs.declared.refused.CycleRefused.{CycleRefused}
use Rattle.mail_cycle.specs.declared.refused.CycleRefused.TheVariants.{Point, Numbers, Disk, NoMemory}
use Rattle.cycle_rules.specs.Asking.{Due, IsRewinds, NoPoint, NoNumbers}

-- by what is due: what it goes back to is not there, or else too few numbers are left; texts are read, and memory is wanted, for a
-- repair alone
abbrev pub IsRefusalBy : Kept → ℕ → Due → CycleRefused → Type 0
IsRefusalBy s wanted due (Point given) = (due ≡ NoPoint) × (given ≡ wanted)
IsRefusalBy s wanted due (Numbers next) = (due ≡ NoNumbers) × (next ≡ s.next)
IsRefusalBy s wanted due Disk = IsRewinds due
IsRefusalBy s wanted due NoMemory = IsRewinds due

-- of a cycle: the timeline does not have its point
abbrev pub IsRefusalOf : Kept → CycleAsk → Due → CycleRefused → Type 0
IsRefusalOf s ask due refused = IsRefusalBy s ask.point due refused

-- where a repair that is due was not worked out
abbrev pub refused_by : BodiesFault → CycleRefused
refused_by bodies_faults.Failed = Disk
refused_by bodies_faults.NoMemory = NoMemory
