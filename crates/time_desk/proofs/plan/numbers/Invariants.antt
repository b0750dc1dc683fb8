use Rattle.std.proofs.Common.{◌≡◌, take}
use Rattle.repair_desk.specs.Repairs.{numbers_of}
use Rattle.time_desk.proofs.plan.numbers.Given as goal

abbrev pub invariant-loop-item : goal.invariant-loop-item
invariant-loop-item l = l.numbers ≡ numbers_of (take l.item-index l.items)
