use Rattle.std.proofs.Common.{◌≡◌, ◌++◌, take}
use Rattle.repair_desk.proofs.items.push_copies.Given as goal

abbrev pub invariant-loop-item : goal.invariant-loop-item
invariant-loop-item l = l.items ≡ l.initial.items ++ take l.item-index l.more
