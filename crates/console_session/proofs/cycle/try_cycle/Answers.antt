use Rattle.console_session.proofs.Rewinding.{try_not_told, try_told}
use Rattle.console_session.proofs.cycle.try_cycle.Goals as goal

pub returns-in-Ok : goal.returns-in-Ok
returns-in-Ok g c =
    try_told g.D.Disk.told c.seals_join.ensures.still c.args.at c.args.ask.now c.in-Ok.report c.args.desk.now c.try_cycle.new.self c.tell_report.result c.try_cycle.ensures.still c.in-Ok.ensures.ok c.in-Ok.ensures.same c.tell_report.ensures

pub returns-in-Err : goal.returns-in-Err
returns-in-Err g c =
    try_not_told g.D.Disk.told c.seals_join.ensures.still c.args.at c.args.ask.now c.args.desk.now c.try_cycle.new.self c.in-Err.fault c.tell_fault.result c.try_cycle.ensures.still c.in-Err.ensures.why c.tell_fault.ensures
