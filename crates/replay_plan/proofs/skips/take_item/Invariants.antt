use Rattle.std.proofs.Common.{◌≡◌, ◌∷◌, [], ◌||◌, nat_lt, take}
use Rattle.std.specs.List.{list_any}
use Rattle.replay_plan.specs.declared.slots.Part.TheVariants.{Level}
use Rattle.replay_plan.specs.Slots.{Spot, is_at, level_at, Leads}
use Rattle.replay_plan.proofs.skips.take_item.Given as goal

-- the level is taken for the touches so far
abbrev pub invariant-loop-touch : goal.invariant-loop-touch
invariant-loop-touch l = record {
  leads : Leads l.end l.next;
  taken : (spot : Spot) → nat_lt 0 (level_at l.next spot) ≡ (list_any (λ a. is_at (Level l.level ∷ []) a spot) (take l.touch-index l.touches) || nat_lt 0 (level_at l.fn.next spot));
}
