use Rattle.std.proofs.Common.{◌≡◌, ℕ, take}
use Rattle.repair_desk.specs.Repairs.{replaced, is_among, numbers_of}
use Rattle.repair_desk.proofs.unmatched.replaced_numbers.Given as goal

abbrev pub invariant-loop-item : goal.invariant-loop-item
invariant-loop-item l = (n : ℕ) → is_among l.set n ≡ is_among (numbers_of (replaced l.asked (take l.item-index l.later))) n
