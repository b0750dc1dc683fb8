use Rattle.std.proofs.Common.{◌∙◌}
use Rattle.replay_plan.proofs.Gathered.{grouped_next, rise_first, rise_next}
use Rattle.replay_plan.proofs.by_level.gathered.Goals as goal

pub put_place-requires-clause-first : goal.put_place-requires-clause-first
put_place-requires-clause-first c = rise_first c.args.levels.now c.loop-place.place c.requires.rise c.loop-place-test.true

pub put_place-requires-clause-next : goal.put_place-requires-clause-next
put_place-requires-clause-next c = rise_next c.args.levels.now c.loop-place.place c.loop-place.plan.items c.requires.rise c.loop-place-test.true c.loop-place.invariant

pub loop-place-preserved : goal.loop-place-preserved
loop-place-preserved c = c.in_ok-put_place.ensures ∙ grouped_next c.args.levels.now c.loop-place.place c.loop-place.plan.items c.requires.rise c.loop-place-test.true c.loop-place.invariant
