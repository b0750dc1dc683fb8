use Rattle.std.proofs.Common.{◌∙◌, ap, map}
use Rattle.replay_plan.specs.Placing.{highest}
use Rattle.replay_plan.specs.Slots.{asked_on, asked_by, level_at}
use Rattle.replay_plan.proofs.Steps.{highest_next}
use Rattle.replay_plan.proofs.last.item_bound.Goals as goal

pub loop-touch-preserved : goal.loop-touch-preserved
loop-touch-preserved c =
    highest_next (λ b. highest (map (λ part. level_at c.args.last.now (asked_on b part)) (asked_by b))) c.args.touches.now c.loop-touch.touch-index c.touch-item.result c.higher-high.result c.loop-touch.high c.in_ok-level.level
    c.loop-touch-test.true (c.in_ok-level.ensures ∙ ap (λ b. highest (map (λ part. level_at c.args.last.now (asked_on b part)) (asked_by b))) c.touch-item.is) c.higher-high.ensures c.loop-touch.invariant
