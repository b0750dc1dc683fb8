use Rattle.std.proofs.Common.{ap}
use Rattle.replay_plan.specs.Slots.{is_at, parts_of, level_at}
use Rattle.replay_plan.proofs.Steps.{raise_more}
use Rattle.replay_plan.proofs.last.raise_item.Goals as goal

pub loop-touch-preserved : goal.loop-touch-preserved
loop-touch-preserved c = λ spot.
    raise_more (λ a. is_at (parts_of a) a spot) c.args.touches.now c.loop-touch.touch-index c.touch-item.result c.args.level (level_at c.args.last.now spot) (level_at c.loop-touch.last spot) (level_at c.raise_touch.new.last spot) (is_at (parts_of c.touch-item.result) c.touch-item.result spot)
    c.loop-touch-test.true (ap (λ a. is_at (parts_of a) a spot) c.touch-item.is) (c.in_ok-raise_touch.ensures spot) (c.loop-touch.invariant spot)
