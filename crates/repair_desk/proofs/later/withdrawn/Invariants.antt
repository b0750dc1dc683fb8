use Rattle.std.proofs.Common.{◌≡◌, take}
use Rattle.repair_desk.specs.Repairs.{withdrawn}
use Rattle.repair_desk.proofs.later.withdrawn.Given as goal

abbrev pub invariant-loop-item : goal.invariant-loop-item
invariant-loop-item l = l.items ≡ withdrawn l.asked (take l.item-index l.later)
