use Rattle.std.proofs.Common.{refl}
use Rattle.time_desk.proofs.Others.{begins_none}
use Rattle.time_desk.proofs.front.opening_of.Goals as goal

pub returns-in_default-clause-bad : goal.returns-in_default-clause-bad
returns-in_default-clause-bad c = (begins_none c.args.what (λ house conf is. c.in_default.not-Format house conf is), refl)
