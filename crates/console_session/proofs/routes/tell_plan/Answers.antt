use Rattle.console_session.proofs.Turns.{plan_not_told, plan_told}
use Rattle.console_session.proofs.routes.tell_plan.Goals as goal

pub returns-in-Ok-clause-told : goal.returns-in-Ok-clause-told
returns-in-Ok-clause-told g c =
    plan_told g.D.Disk.told c.args.point c.in-Ok.text c.args.desk.now c.plan_text.new.self c.tell_plainly.result c.in-Ok.ensures.text c.in-Ok.ensures.ok c.tell_plainly.ensures

pub returns-in-Err-clause-told : goal.returns-in-Err-clause-told
returns-in-Err-clause-told g c =
    plan_not_told g.D.Disk.told c.args.point c.in-Err.fault c.args.desk.now c.plan_text.new.self c.tell_fault.result c.in-Err.ensures.why c.tell_fault.ensures
