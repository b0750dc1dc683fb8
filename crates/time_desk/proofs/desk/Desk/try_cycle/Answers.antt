use Rattle.std.proofs.Common.{Err, Ok, subst, sym}
use Rattle.std.specs.Prelude.{Result}
use Rattle.std.proofs.lemmas.Result.{err_from_is_err_and}
use Rattle.paradox.specs.declared.reports.Report.{Report}
use Rattle.desk_journal.specs.Lasting.{Lasting, lasting}
use Rattle.desk_journal.specs.Stored.{HoldsTexts}
use Rattle.time_desk.specs.declared.fault.CycleFault.{CycleFault}
use Rattle.time_desk.specs.Cycling.{Tries}
use Rattle.time_desk.proofs.Rewinding.{cycle_tried}
use Rattle.time_desk.proofs.desk.Desk.try_cycle.Goals as goal

pub returns-clause-ok : goal.returns-clause-ok
returns-clause-ok g c =
    let inside = c.self.inside in
    subst (λ (l : Lasting g.row.D.Denot). Tries l.kept c.args.at c.args.ask.now (HoldsTexts g.D.Disk.told l) c.report_in.result) c.self.view_is
    (cycle_tried g.D.Disk.told inside.desk inside.journal c.args.at c.args.ask.now c.in_ok-made.made c.report_in.result c.in_ok-made.ensures.redoes.cycled c.report_in.ensures)
