use Rattle.std.proofs.Common.{Bool, subst}
use Rattle.verb_core.specs.declared.conf.House.{House}
use Rattle.console_replies.specs.Reports.{report_data}
use Rattle.console_session.specs.declared.reply.After.TheVariants.{Rewinds}
use Rattle.console_session.specs.Answers.{answer}
use Rattle.console_session.specs.Hearing.{TellsOnly, TellsWithdrawFault}
use Rattle.console_session.proofs.Rewinding.{withdrawal_done, withdrawal_not_done}
use Rattle.console_session.proofs.withdrawal.withdraw_anew.Goals as goal

pub returns-in-Ok : goal.returns-in-Ok
returns-in-Ok g c =
    withdrawal_done g.D.Disk.told c.args.at c.args.key.now c.args.of c.in-Ok.report c.args.desk.now c.withdraw.new.self c.tell_only.result c.requires.fresh c.in-Ok.ensures.done c.in-Ok.ensures.same
    c.in-Ok.ensures.finds_memory
    (subst (λ (h : House). TellsOnly (answer 200 (report_data h c.in-Ok.report)) Rewinds c.tell_only.result) c.house.ensures.value
    (c.tell_only.ensures (report_data c.house.result.now c.in-Ok.report) c.report_json.ensures))

pub returns : goal.returns
returns g c =
    withdrawal_not_done g.D.Disk.told c.seals_join.ensures.still g.met.D.Disk.tells_truth c.args.at c.args.key.now c.args.of c.args.desk.now c.withdraw.new.self c.in-Err.fault c.tell_fault.result c.requires.open
    c.in-Err.ensures.why c.in-Err.ensures.wants
    (subst (λ (b : Bool). TellsWithdrawFault b c.in-Err.fault c.tell_fault.result) c.closed.ensures c.tell_fault.ensures)
