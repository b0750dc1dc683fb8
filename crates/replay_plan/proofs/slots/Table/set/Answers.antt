use Rattle.replay_plan.proofs.Tables.{side_set}
use Rattle.replay_plan.proofs.slots.Table.set.Goals as goal

pub returns : goal.returns
returns c = λ spot. side_set spot c.args.slot c.sides_at-sides.result c.with_one.result c.args.self.now _ c.sides_at-sides.ensures (c.in_ok-put.ensures spot) c.args.written c.args.level c.with_one.ensures.all c.with_one.ensures.writers
