use Rattle.std.proofs.Common.{◌≡◌, map, take}
use Rattle.touch_rules.specs.Table.{touches_of}
use Rattle.replay_crew.proofs.resolving.touch_all.Given as goal

abbrev pub invariant-loop-what : goal.invariant-loop-what
invariant-loop-what l = l.list ≡ map touches_of (take l.what-index l.all)
