use Rattle.std.proofs.Common.{subst, sym}
use Rattle.time_desk.specs.Fronts.{FoundNoted, IsGrounded}
use Rattle.time_desk.proofs.Founding.{has_second}
use Rattle.time_desk.proofs.Fronts.{begun_grounded}
use Rattle.time_desk.proofs.Settled.{begins_based, breaks_base, first_gate}
use Rattle.time_desk.proofs.front.begin_based.Goals as goal

pub begin_on-requires-clause-grounded : goal.begin_on-requires-clause-grounded
begin_on-requires-clause-grounded g c = subst IsGrounded (sym c.in-Ok.ensures.founding.1) (begun_grounded c.args.house c.args.conf c.args.base c.in-Ok.ensures.stands)

pub returns-in-Ok-clause-opened : goal.returns-in-Ok-clause-opened
returns-in-Ok-clause-opened g c payloads holds are first second =
    c.begin_on.ensures.opened payloads holds are (begins_based payloads c.args.house c.args.conf c.args.base c.in-Ok.founding first second c.in-Ok.ensures.founding.0 c.in-Ok.ensures.founding.1)

pub returns-in-Ok-clause-texts : goal.returns-in-Ok-clause-texts
returns-in-Ok-clause-texts g c payloads holds are first second =
    c.begin_on.ensures.texts payloads holds are (begins_based payloads c.args.house c.args.conf c.args.base c.in-Ok.founding first second c.in-Ok.ensures.founding.0 c.in-Ok.ensures.founding.1)

pub returns-in-Ok-clause-bad : goal.returns-in-Ok-clause-bad
returns-in-Ok-clause-bad g c payloads holds are first second =
    c.begin_on.ensures.bad payloads holds are (begins_based payloads c.args.house c.args.conf c.args.base c.in-Ok.founding first second c.in-Ok.ensures.founding.0 c.in-Ok.ensures.founding.1)

pub returns-in-Err-clause-bad : goal.returns-in-Err-clause-bad
returns-in-Err-clause-bad g c payloads holds are first second =
    breaks_base c.one_spelling.ensures.one_record payloads c.args.house c.args.conf c.args.base c.args.cut c.args.past.now.end c.nth.result.gate c.in-Err.fault first second
    (first_gate payloads c.nth.result (has_second payloads c.args.places.now c.nth.result are c.nth.ensures)) c.in-Err.ensures.bad
