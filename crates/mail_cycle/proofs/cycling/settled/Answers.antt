use Rattle.mail_cycle.proofs.Parts.{settles_alike}
use Rattle.mail_cycle.proofs.cycling.settled.Goals as goal

pub returns-in-Ok-clause-settles : goal.returns-in-Ok-clause-settles
returns-in-Ok-clause-settles g c =
    settles_alike c.args.due.now c.args.repairs.from _ c.in-Ok.replayed c.args.later c.settle.result c.in-Ok.ensures.items c.in-Ok.ensures.store c.in-Ok.ensures.shows c.settle.ensures.settles
