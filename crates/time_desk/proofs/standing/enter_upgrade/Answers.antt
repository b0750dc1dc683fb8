use Rattle.std.proofs.Common.{Some, ap, sym, ◌∙◌}
use Rattle.time_desk.proofs.Standings.{upgrade_after, upgrade_none}
use Rattle.time_desk.proofs.standing.enter_upgrade.Goals as goal

pub returns-then-deep-clause-entered : goal.returns-then-deep-clause-entered
returns-then-deep-clause-entered c = upgrade_none c.args.desk.now.kept c.args.at c.requires (sym c.deep.ensures ∙ c.if-deep.true)

pub returns-clause-entered : goal.returns-clause-entered
returns-clause-entered c = upgrade_after c.args.desk.now.kept c.args.at c.requires (sym c.deep.ensures ∙ c.if-deep.false) ∙ ap Some (sym c.upgrade.ensures.kept)
