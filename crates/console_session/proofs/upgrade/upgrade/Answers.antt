use Rattle.std.proofs.Common.{◌∙◌, sym}
use Rattle.console_replies.specs.Bodies.{upgraded_data}
use Rattle.console_session.proofs.Turns.{upgrade_not_sealed, upgrade_sealed, upgrade_told}
use Rattle.console_session.proofs.upgrade.upgrade.Goals as goal

pub returns-then-upgraded : goal.returns-then-upgraded
returns-then-upgraded g c =
    upgrade_told g.D.Disk.told c.seals_join.ensures.still g.met.D.Disk.tells_truth c.args.at c.args.desk.now c.tell.result (sym c.upgraded.ensures ∙ c.if-upgraded.true) (c.tell.ensures upgraded_data c.upgraded_json.ensures)

pub returns-in-Ok : goal.returns-in-Ok
returns-in-Ok g c =
    upgrade_sealed g.D.Disk.told c.args.at c.args.desk.now c.upgrade.new.self c.tell_only.result (sym c.upgraded.ensures ∙ c.if-upgraded.false) c.in-Ok.ensures.ok c.upgrade.ensures.reads
    c.in-Ok.ensures.wants.ok
    (c.tell_only.ensures upgraded_data c.upgraded_json-in-Ok.ensures)

pub returns-in-Err : goal.returns-in-Err
returns-in-Err g c =
    upgrade_not_sealed g.D.Disk.told c.args.at c.args.desk.now c.upgrade.new.self c.in-Err.fault c.tell_fault.result c.requires (sym c.upgraded.ensures ∙ c.if-upgraded.false) c.in-Err.ensures.why c.upgrade.ensures.reads
    c.in-Err.ensures.wants c.tell_fault.ensures
