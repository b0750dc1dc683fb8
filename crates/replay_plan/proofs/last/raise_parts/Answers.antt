use Rattle.std.proofs.Common.{◌∷◌, [], ◌&&◌, ◌||◌, not}
use Rattle.replay_plan.specs.Slots.{is_at, is_of}
use Rattle.replay_plan.proofs.Steps.{raise_more, raised_here}
use Rattle.replay_plan.proofs.last.raise_parts.Goals as goal

pub loop-part-preserved : goal.loop-part-preserved
loop-part-preserved c = λ spot.
    raise_more (λ part. is_at (part ∷ []) c.args.touch.now spot) c.args.parts.now c.loop-part.part-index _ c.args.level _ _ _ ((not spot.written || c.writes.result) && is_of spot c.slot_on-slot.result)
    c.loop-part-test.true (raised_here c.args.touch.now spot _ c.writes.result _ c.writes.ensures (c.slot_on-slot.ensures spot.written)) (c.in_ok-raise.ensures spot) (c.loop-part.invariant spot)
