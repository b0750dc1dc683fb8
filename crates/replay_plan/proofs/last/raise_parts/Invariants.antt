use Rattle.std.proofs.Common.{◌≡◌, ◌∷◌, [], max, cond, take}
use Rattle.std.specs.List.{list_any}
use Rattle.replay_plan.specs.Slots.{Spot, is_at, level_at}
use Rattle.replay_plan.proofs.last.raise_parts.Given as goal

-- the parts so far have the level
abbrev pub invariant-loop-part : goal.invariant-loop-part
invariant-loop-part l = (spot : Spot) → level_at l.last spot ≡ max (cond (list_any (λ part. is_at (part ∷ []) l.touch spot) (take l.part-index l.parts)) l.level 0) (level_at l.fn.last spot)
