use Rattle.std.proofs.Common.{◌≡◌, map, take}
use Rattle.replay_plan.specs.Placing.{highest}
use Rattle.replay_plan.specs.Slots.{asked_on, level_at}
use Rattle.replay_plan.proofs.last.highest_at.Given as goal

-- the highest of the parts so far
abbrev pub invariant-loop-part : goal.invariant-loop-part
invariant-loop-part l = l.high ≡ highest (map (λ part. level_at l.last (asked_on l.touch part)) (take l.part-index l.parts))
