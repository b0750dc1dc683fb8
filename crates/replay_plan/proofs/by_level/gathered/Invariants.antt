use Rattle.std.proofs.Common.{◌≡◌, take}
use Rattle.replay_plan.specs.Placing.{grouped}
use Rattle.replay_plan.proofs.by_level.gathered.Given as goal

-- the plan of the items so far
abbrev pub invariant-loop-place : goal.invariant-loop-place
invariant-loop-place l = l.plan.items ≡ grouped (take l.place l.levels)
