use Rattle.std.proofs.Common.{◌≡◌, ◌++◌, map, drop}
use Rattle.touch_rules.specs.Table.{written}
use Rattle.touch_rules.proofs.by_item.with_written.Given as goal

-- the touches so far, and those of the mailboxes that are left, are all
abbrev pub invariant-loop-name : goal.invariant-loop-name
invariant-loop-name l = l.all ++ map (written l.user) (drop l.name-index l.names) ≡ l.fn.set ++ map (written l.user) l.names
