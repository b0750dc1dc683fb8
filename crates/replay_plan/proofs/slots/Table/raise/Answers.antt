use Rattle.replay_plan.proofs.Tables.{side_raised}
use Rattle.replay_plan.proofs.slots.Table.raise.Goals as goal

pub returns : goal.returns
returns c = λ spot. side_raised spot c.args.slot c.sides_at-sides.result c.raised.result c.args.self.now _ c.sides_at-sides.ensures (c.in_ok-put.ensures spot) c.args.writes c.args.level c.raised.ensures.all c.raised.ensures.writers
