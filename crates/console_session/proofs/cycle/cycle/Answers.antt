use Rattle.std.proofs.Common.{sym}
use Rattle.console_session.proofs.Rewinding.{cycle_known}
use Rattle.console_session.proofs.cycle.cycle.Goals as goal

pub returns-in-Some : goal.returns-in-Some
returns-in-Some g c =
    cycle_known g.D.Disk.told c.seals_join.ensures.still g.met.D.Disk.tells_truth c.args.at c.args.ask c.in-Some.report.now c.args.desk.now c.tell_report.result (sym c.in-Some.ensures) c.tell_report.ensures
