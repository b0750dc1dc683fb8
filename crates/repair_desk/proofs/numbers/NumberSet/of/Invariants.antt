use Rattle.std.proofs.Common.{◌≡◌, ℕ, take}
use Rattle.repair_desk.specs.Repairs.{is_among}
use Rattle.repair_desk.proofs.numbers.NumberSet.of.Given as goal

abbrev pub invariant-loop-number : goal.invariant-loop-number
invariant-loop-number l = (n : ℕ) → is_among l.set n ≡ is_among (take l.number-index l.numbers) n
