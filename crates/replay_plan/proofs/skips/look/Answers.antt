use Rattle.std.proofs.Common.{◌∙◌, ap}
use Rattle.replay_plan.specs.Slots.{level_at}
use Rattle.replay_plan.proofs.skips.look.Goals as goal

pub returns : goal.returns
returns c = c.get.ensures ∙ ap (level_at c.args.next.now) (c.slot_on-slot.ensures c.args.written)
