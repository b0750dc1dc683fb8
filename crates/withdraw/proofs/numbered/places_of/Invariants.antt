use Rattle.std.proofs.Common.{◌≡◌, ℕ, ◌≤◌, drop, length}
use Rattle.std.specs.BTreeMap.{get}
use Rattle.std.specs.Ordering.{nat_cmp}
use Rattle.withdraw.specs.Lookups.{item_at}
use Rattle.withdraw.specs.Unediting.{item_of}
use Rattle.withdraw.proofs.numbered.places_of.Given as goal

-- the places of the last items
abbrev pub invariant-loop-place : goal.invariant-loop-place
invariant-loop-place l = record {
  within : l.place ≤ length l.items;
  leads : (n : ℕ) → item_at l.items (get nat_cmp l.places n) ≡ item_of (drop l.place l.items) n;
}

abbrev pub decreases-loop-place : goal.decreases-loop-place
decreases-loop-place l = l.place
