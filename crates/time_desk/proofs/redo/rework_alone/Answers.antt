use Rattle.std.proofs.Common.{◌≡◌}
use Rattle.time_desk.proofs.Requests.{alone}
use Rattle.time_desk.proofs.redo.rework_alone.Goals as goal

pub returns-clause-redoes : goal.returns-clause-redoes
returns-clause-redoes g c =
    alone g.D.Disk.told c.args.desk.now c.args.at c.args.asked.now c.args.journal.now.disk c.rework.new.journal.disk (c.rework.new.journal ≡ c.args.journal.now) c.new-steps.result c.rework.new.steps c.rework.result c.rework.ensures.redoes
