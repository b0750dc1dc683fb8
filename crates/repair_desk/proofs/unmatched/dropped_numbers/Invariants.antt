use Rattle.std.proofs.Common.{◌≡◌, ℕ, take}
use Rattle.repair_desk.specs.Repairs.{dropped, is_among, numbers_of}
use Rattle.repair_desk.proofs.unmatched.dropped_numbers.Given as goal

abbrev pub invariant-loop-item : goal.invariant-loop-item
invariant-loop-item l = (n : ℕ) → is_among l.set n ≡ is_among (numbers_of (dropped l.asked (take l.item-index l.later))) n
