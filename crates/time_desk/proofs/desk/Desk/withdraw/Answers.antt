use Rattle.std.proofs.Common.{◌+◌, ◌≤◌, subst, sym}
use Rattle.std.specs.Prelude.{OnErr, Result}
use Rattle.paradox.specs.declared.reports.Report.{Report}
use Rattle.cycle_rules.specs.Withdrawals.{withdrawn_at}
use Rattle.desk_journal.specs.Lasting.{lasting}
use Rattle.time_desk.specs.declared.fault.WithdrawFault.{WithdrawFault}
use Rattle.time_desk.specs.Cycling.{most_begun}
use Rattle.time_desk.proofs.Answering.{seen_as}
use Rattle.time_desk.proofs.States.{lasts_withdrawn}
use Rattle.time_desk.proofs.desk.Desk.withdraw.Goals.{in-Ok, in-Err}
use Rattle.time_desk.proofs.desk.Desk.withdraw.Goals as goal

pub returns-clause-most : goal.returns-clause-most
returns-clause-most g c = λ last is holds.
    let kept = c.args.self.now.kept in
    elim c.match-does.branch [
      | in-Ok w ↦ subst (λ (r : Result Report WithdrawFault). OnErr r (c.does.new.steps ≤ c.args.steps.now + most_begun kept 0 (withdrawn_at kept c.args.at last))) (sym w.result-is) tt
      | in-Err w ↦
          subst (λ (r : Result Report WithdrawFault). OnErr r (c.does.new.steps ≤ c.args.steps.now + most_begun kept 0 (withdrawn_at kept c.args.at last))) (sym w.result-is)
          ((seen_as _ _ _ _ _ _ _ _ _ c.self.view_is w.in-Err.ensures.answered).most last is holds)
    ]

-- what was sealed lets UIDs last
pub returns-clause-uids : goal.returns-clause-uids
returns-clause-uids g c = λ holds.
    let whole = seen_as _ _ _ _ _ _ _ _ _ c.self.view_is c.does.ensures.answered in
    lasts_withdrawn c.records_let_uids_last.ensures.lasts g.D.Disk.told c.args.at c.args.key.now c.args.of c.does.result c.args.self.now (lasting c.does.new.desk c.does.new.journal) holds (c.stands.ensures.sound holds.texts.runs) whole.done whole.kept
