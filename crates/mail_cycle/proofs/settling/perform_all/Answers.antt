use Rattle.std.proofs.Common.{arith}
use Rattle.replay_crew.proofs.Loops.{at_err}
use Rattle.mail_cycle.proofs.settling.perform_all.Goals as goal

pub returns-in_err-perform-clause-most : goal.returns-in_err-perform-clause-most
returns-in_err-perform-clause-most g c = at_err c.from_residual.result (omega (arith, c.in_err-perform.ensures.no_step, c.loop-notice.invariant.steps))
