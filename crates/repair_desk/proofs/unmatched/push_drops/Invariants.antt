use Rattle.std.proofs.Common.{◌≡◌, ◌++◌, take}
use Rattle.repair_desk.specs.Repairs.{missing}
use Rattle.repair_desk.proofs.unmatched.push_drops.Given as goal

abbrev pub invariant-loop-number : goal.invariant-loop-number
invariant-loop-number l = l.numbers ≡ l.initial.numbers ++ missing l.met (take l.number-index l.drops)
