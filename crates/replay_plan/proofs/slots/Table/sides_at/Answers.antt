use Rattle.std.proofs.Common.{◌∙◌, sym, ap, refl, option_copied}
use Rattle.replay_plan.specs.Slots.{spot_of, level_at}
use Rattle.replay_plan.proofs.Tables.{finds_some, finds_none}
use Rattle.replay_plan.proofs.slots.Table.sides_at.Goals as goal

pub returns-in-Some : goal.returns-in-Some
returns-in-Some c = λ w. finds_some c.args.slot.now w c.self.inside.levels.entries c.in-Some.sides.now (ap option_copied (sym c.in-Some.is) ∙ c.get.ensures.value) ∙ ap (λ es. level_at es (spot_of c.args.slot.now w)) c.self.view_is

pub returns-in-None : goal.returns-in-None
returns-in-None c = λ w. finds_none c.args.slot.now w c.self.inside.levels.entries _ refl refl (ap option_copied (sym c.in-None.is) ∙ c.get.ensures.value) ∙ ap (λ es. level_at es (spot_of c.args.slot.now w)) c.self.view_is
