use Rattle.std.proofs.Common.{◌≡◌, ◌++◌, map, drop}
use Rattle.touch_rules.specs.Table.{looked_for}
use Rattle.touch_rules.proofs.by_item.with_misses.Given as goal

-- the touches so far, and those of the mailboxes that are left, are all
abbrev pub invariant-loop-aim : goal.invariant-loop-aim
invariant-loop-aim l = l.all ++ map looked_for (drop l.aim-index l.missed) ≡ l.fn.set ++ map looked_for l.missed
