use Rattle.console_session.proofs.Turns.{serves_refusal, serves_waiting}
use Rattle.console_session.proofs.session.serve.Goals as goal

pub returns-in-Err : goal.returns-in-Err
returns-in-Err g c =
    serves_refusal g.D.Disk.told c.seals_join.ensures.still g.met.D.Disk.tells_truth c.args.at c.args.asked c.in-Err.why c.args.desk.now c.tell_refused.result c.in-Err.is c.tell_refused.ensures

pub returns-in-Ok-NotYet : goal.returns-in-Ok-NotYet
returns-in-Ok-NotYet g c =
    serves_waiting g.D.Disk.told c.seals_join.ensures.still g.met.D.Disk.tells_truth c.args.at c.args.asked c.in-Ok-NotYet.field-0 c.args.desk.now c.silent.result c.in-Ok-NotYet.is c.in-Ok-NotYet.field-0-is c.silent.ensures
