use Rattle.std.proofs.Common.{◌≡◌, max, cond, take}
use Rattle.std.specs.List.{list_any}
use Rattle.replay_plan.specs.Slots.{Spot, is_at, parts_of, level_at}
use Rattle.replay_plan.proofs.last.raise_item.Given as goal

-- the touches so far have the level
abbrev pub invariant-loop-touch : goal.invariant-loop-touch
invariant-loop-touch l = (spot : Spot) → level_at l.last spot ≡ max (cond (list_any (λ a. is_at (parts_of a) a spot) (take l.touch-index l.touches)) l.level 0) (level_at l.fn.last spot)
