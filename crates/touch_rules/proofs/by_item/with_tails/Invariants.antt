use Rattle.std.proofs.Common.{◌≡◌, ◌++◌, map, drop}
use Rattle.touch_rules.specs.Table.{tail_on}
use Rattle.touch_rules.proofs.by_item.with_tails.Given as goal

-- the touches so far, and those of the aims that are left, are all
abbrev pub invariant-loop-aim : goal.invariant-loop-aim
invariant-loop-aim l = l.all ++ map (tail_on l.number) (drop l.aim-index l.aims) ≡ l.fn.set ++ map (tail_on l.number) l.aims
