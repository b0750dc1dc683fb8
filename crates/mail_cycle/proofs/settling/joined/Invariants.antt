use Rattle.std.proofs.Common.{◌≡◌, ◌++◌}
use Rattle.mail_cycle.proofs.settling.joined.Given as goal

-- the items so far and the notices that are left are all of them
abbrev pub invariant-loop-item : goal.invariant-loop-item
invariant-loop-item l = l.items ++ l.item-iterator.rest.items ≡ l.fn.items ++ l.fn.more
