use Rattle.std.proofs.Common.{arith}
use Rattle.replay_crew.proofs.Loops.{at_err}
use Rattle.mail_cycle.proofs.settling.close.Goals as goal

pub returns-in-Ok-lead-clause-most : goal.returns-in-Ok-lead-clause-most
returns-in-Ok-lead-clause-most g c = at_err c.finish.result (omega (arith, c.in-Ok-lead.ensures.steps))
