use Rattle.std.proofs.Common.{◌≡◌, cond, subst}
use Rattle.replay_plan.specs.Slots.{is_of, side, level_at}
use Rattle.replay_plan.proofs.Tables.{level_put}
use Rattle.replay_plan.proofs.slots.Table.put.Goals as goal

pub returns : goal.returns
returns c = λ spot.
    subst (λ old. level_at c.insert.new.self.entries spot ≡ cond (is_of spot c.args.slot) (side spot.written c.args.sides) (level_at old spot)) c.self.view_is
    (level_put spot c.args.slot c.args.sides c.self.inside.levels.entries c.insert.new.self.entries c.in_ok-insert.ensures.updates.1 c.in_ok-insert.ensures.updates.3)
