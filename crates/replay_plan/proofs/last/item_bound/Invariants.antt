use Rattle.std.proofs.Common.{◌≡◌, map, take}
use Rattle.replay_plan.specs.Placing.{highest}
use Rattle.replay_plan.specs.Slots.{asked_on, asked_by, level_at}
use Rattle.replay_plan.proofs.last.item_bound.Given as goal

-- the highest of the touches so far
abbrev pub invariant-loop-touch : goal.invariant-loop-touch
invariant-loop-touch l = l.high ≡ highest (map (λ b. highest (map (λ part. level_at l.last (asked_on b part)) (asked_by b))) (take l.touch-index l.touches))
