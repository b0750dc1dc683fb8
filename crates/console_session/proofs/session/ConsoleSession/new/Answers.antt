use Rattle.std.proofs.Common.{◌++◌, refl}
use Rattle.console_session.proofs.session.ConsoleSession.new.Goals as goal

pub invariant_of-result : goal.invariant_of-result
invariant_of-result c = (λ more. c.new-2.ensures (c.new.result ++ more), λ other. refl)
