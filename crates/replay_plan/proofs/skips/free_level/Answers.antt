use Rattle.std.proofs.Common.{◌∙◌, arith}
use Rattle.replay_plan.proofs.Steps.{same_past, one_by_one}
use Rattle.replay_plan.proofs.skips.free_level.Goals as goal

pub loop-level-preserved : goal.loop-level-preserved
loop-level-preserved c = record {
  same = λ s. c.in_ok-free-2.ensures.same s ∙ c.loop-level.invariant.same s;
  leads = c.in_ok-free-2.ensures.leads;
  from = omega (arith, c.loop-level.invariant.from, c.loop-level-test.true);
  past = same_past c.args.end c.args.next.now c.loop-level.next c.args.touches.now c.loop-level.free c.in_ok-free-2.free c.loop-level.invariant.same c.in_ok-free-2.ensures.past;
  first = one_by_one c.args.end c.args.next.now c.args.touches.now c.args.low c.loop-level.level c.loop-level.free c.loop-level.invariant.past c.loop-level.invariant.first;
}
