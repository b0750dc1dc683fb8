use Rattle.std.proofs.Common.{◌≡◌, ◌++◌, map, take}
use Rattle.repair_desk.specs.Repairs.{kept, repaired}
use Rattle.repair_desk.proofs.later.push_kept.Given as goal

abbrev pub invariant-loop-item : goal.invariant-loop-item
invariant-loop-item l = l.items ≡ l.initial.items ++ map (repaired l.asked l.fn.c) (kept l.asked (take l.item-index l.later))
