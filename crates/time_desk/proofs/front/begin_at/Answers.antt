use Rattle.std.proofs.Common.{◌≡◌, List, ℕ, subst}
use Rattle.std.specs.Prelude.{IfErr}
use Rattle.desk_journal.proofs.Staying.{holds_on}
use Rattle.time_desk.specs.Standing.{FrontBreaksFor}
use Rattle.time_desk.proofs.Settled.{begins_first, breaks_first}
use Rattle.time_desk.proofs.Standings.{has_first, lies_first}
use Rattle.time_desk.proofs.front.begin_at.Goals as goal

pub returns-in-Ok-clause-opened : goal.returns-in-Ok-clause-opened
returns-in-Ok-clause-opened g c payloads holds are =
    let has = has_first payloads c.args.places.now c.nth.result are c.nth.ensures in
    c.begin_with.ensures.opened payloads (holds_on (g.D.Disk.told c.args.past.now.disk) (g.D.Disk.told c.opening_at.new.past.disk) payloads c.opening_at.ensures.still.reads holds) are
    (begins_first payloads has.payload has.others c.in-Ok.house c.in-Ok.conf has.split (c.in-Ok.ensures.first payloads has.payload holds (lies_first payloads c.args.places.now c.nth.result has)))

pub returns-in-Ok-clause-texts : goal.returns-in-Ok-clause-texts
returns-in-Ok-clause-texts g c payloads holds are =
    let has = has_first payloads c.args.places.now c.nth.result are c.nth.ensures in
    c.begin_with.ensures.texts payloads (holds_on (g.D.Disk.told c.args.past.now.disk) (g.D.Disk.told c.opening_at.new.past.disk) payloads c.opening_at.ensures.still.reads holds) are
    (begins_first payloads has.payload has.others c.in-Ok.house c.in-Ok.conf has.split (c.in-Ok.ensures.first payloads has.payload holds (lies_first payloads c.args.places.now c.nth.result has)))

pub returns-in-Ok-clause-bad : goal.returns-in-Ok-clause-bad
returns-in-Ok-clause-bad g c payloads holds are =
    let has = has_first payloads c.args.places.now c.nth.result are c.nth.ensures in
    subst (λ (n : ℕ). IfErr c.begin_with.result (FrontBreaksFor c.args.cut n payloads)) c.opening_at.ensures.still.end
    (c.begin_with.ensures.bad payloads (holds_on (g.D.Disk.told c.args.past.now.disk) (g.D.Disk.told c.opening_at.new.past.disk) payloads c.opening_at.ensures.still.reads holds) are
    (begins_first payloads has.payload has.others c.in-Ok.house c.in-Ok.conf has.split (c.in-Ok.ensures.first payloads has.payload holds (lies_first payloads c.args.places.now c.nth.result has))))

pub returns-in-Err-clause-bad : goal.returns-in-Err-clause-bad
returns-in-Err-clause-bad g c payloads holds are =
    let has = has_first payloads c.args.places.now c.nth.result are c.nth.ensures in
    breaks_first payloads has.payload has.others c.args.cut c.args.past.now.end c.nth.result.gate c.in-Err.fault has.split has.gate_is
    (c.in-Err.ensures.bad payloads has.payload holds (lies_first payloads c.args.places.now c.nth.result has))
