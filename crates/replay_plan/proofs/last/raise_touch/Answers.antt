use Rattle.std.proofs.Common.{◌∙◌, ◌∷◌, [], ap, cond, max}
use Rattle.std.specs.List.{list_any}
use Rattle.replay_plan.specs.Slots.{is_at, level_at, parts_of}
use Rattle.replay_plan.proofs.Steps.{one_by_part}
use Rattle.replay_plan.proofs.last.raise_touch.Goals as goal

pub returns : goal.returns
returns c = λ spot.
    c.in_ok-raise_parts.ensures spot
    ∙ ap (λ parts. max (cond (list_any (λ p. is_at (p ∷ []) c.args.touch.now spot) parts) c.args.level 0) (level_at c.args.last.now spot)) (c.as_slice.ensures.value ∙ c.in_ok-parts.ensures)
    ∙ ap (λ b. max (cond b c.args.level 0) (level_at c.args.last.now spot)) (one_by_part c.args.touch.now spot (parts_of c.args.touch.now))
