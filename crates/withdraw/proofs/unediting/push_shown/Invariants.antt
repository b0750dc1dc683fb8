use Rattle.std.proofs.Common.{◌≡◌, ◌++◌, map, take}
use Rattle.withdraw.specs.Unediting.{as_shown}
use Rattle.withdraw.proofs.unediting.push_shown.Given as goal

abbrev pub invariant-loop-item : goal.invariant-loop-item
invariant-loop-item l = l.items ≡ l.initial.items ++ map (as_shown l.present) (take l.item-index l.before)
