use Rattle.std.proofs.Common.{◌∙◌}
use Rattle.replay_plan.proofs.Steps.{past_from, past_within, past_passed, past_still}
use Rattle.replay_plan.proofs.skips.past_item.Goals as goal

pub loop-touch-preserved : goal.loop-touch-preserved
loop-touch-preserved c = record {
  same = λ s. c.in_ok-free.ensures.same s ∙ c.loop-touch.invariant.same s;
  leads = c.in_ok-free.ensures.leads;
  from = past_from c.args.end c.args.next.now c.loop-touch.next c.args.touches.now c.loop-touch.touch-index c.touch-item.result c.writes.result c.args.level c.loop-touch.free c.in_ok-free.free
      c.loop-touch.invariant.same c.loop-touch-test.true c.touch-item.is c.writes.ensures c.in_ok-free.ensures.free c.loop-touch.invariant.from c.loop-touch.invariant.within;
  within = past_within c.args.end c.args.next.now c.loop-touch.next c.args.touches.now c.loop-touch.touch-index c.touch-item.result c.writes.result c.args.level c.loop-touch.free c.in_ok-free.free
      c.loop-touch.invariant.same c.loop-touch-test.true c.touch-item.is c.writes.ensures c.in_ok-free.ensures.free c.loop-touch.invariant.from c.loop-touch.invariant.within;
  passed = past_passed c.args.end c.args.next.now c.loop-touch.next c.args.touches.now c.loop-touch.touch-index c.touch-item.result c.writes.result c.args.level c.loop-touch.free c.in_ok-free.free
      c.loop-touch.invariant.same c.loop-touch-test.true c.touch-item.is c.writes.ensures c.in_ok-free.ensures.free c.loop-touch.invariant.from c.loop-touch.invariant.within c.loop-touch.invariant.passed;
  still = past_still c.args.end c.args.next.now c.loop-touch.next c.args.touches.now c.loop-touch.touch-index c.touch-item.result c.writes.result c.args.level c.loop-touch.free c.in_ok-free.free
      c.loop-touch.invariant.same c.loop-touch-test.true c.touch-item.is c.writes.ensures c.in_ok-free.ensures.free c.loop-touch.invariant.from c.loop-touch.invariant.within c.loop-touch.invariant.still;
}
