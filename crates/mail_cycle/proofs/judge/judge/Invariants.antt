use Rattle.std.proofs.Common.{◌≡◌, ◌++◌, drop}
use Rattle.cycle_rules.specs.Judging.{judged}
use Rattle.mail_cycle.proofs.judge.judge.Given as goal

-- those so far, and those of the items that are left over the answers that are left, are all of them
abbrev pub invariant-loop-item : goal.invariant-loop-item
invariant-loop-item l = l.list ++ judged l.drops (drop l.item-index l.later) l.now ≡ judged l.drops l.later l.now-2
