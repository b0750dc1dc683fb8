use Rattle.std.proofs.Common.{◌∙◌, arith, length, ap}
use Rattle.replay_plan.proofs.Least.{rises, as_many}
use Rattle.replay_plan.proofs.planning.plan.Goals as goal

pub gathered-requires-clause-many : goal.gathered-requires-clause-many
gathered-requires-clause-many c = omega (arith, as_many c.as_slice-2.result.now c.as_slice.result.now (c.as_slice-2.ensures.value ∙ c.in_ok-levels.ensures), ap length c.as_slice.ensures, c.if-len-ge4294967295.false, c.len.ensures)

pub gathered-requires-clause-rise : goal.gathered-requires-clause-rise
gathered-requires-clause-rise c = rises c.as_slice-2.result.now c.as_slice.result.now (c.as_slice-2.ensures.value ∙ c.in_ok-levels.ensures)
