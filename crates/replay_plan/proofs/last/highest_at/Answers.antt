use Rattle.std.proofs.Common.{◌∙◌, ap, not}
use Rattle.replay_plan.specs.Slots.{asked_on, level_at}
use Rattle.replay_plan.proofs.Steps.{highest_next, asked_at}
use Rattle.replay_plan.proofs.last.highest_at.Goals as goal

pub loop-part-preserved : goal.loop-part-preserved
loop-part-preserved c =
    highest_next (λ part. level_at c.args.last.now (asked_on c.args.touch.now part)) c.args.parts.now c.loop-part.part-index _ c.higher-high.result c.loop-part.high c.get.result
    c.loop-part-test.true (c.get.ensures ∙ ap (level_at c.args.last.now) (asked_at c.args.touch.now c.writes.result _ _ (c.slot_on-slot.ensures (not c.writes.result)) c.writes.ensures)) c.higher-high.ensures c.loop-part.invariant
