use Rattle.std.proofs.Common.{◌≡◌, ℕ, take}
use Rattle.std.specs.BTreeMap.{get}
use Rattle.std.specs.Ordering.{nat_cmp}
use Rattle.repair_desk.specs.Lookups.{text_at}
use Rattle.repair_desk.specs.Repairs.{text_asked}
use Rattle.desk_journal.proofs.new_texts.last_places.Given as goal

abbrev pub invariant-loop-place : goal.invariant-loop-place
invariant-loop-place l = (n : ℕ) → text_at l.replaces (get nat_cmp l.places n) ≡ text_asked (take l.place l.replaces) n
