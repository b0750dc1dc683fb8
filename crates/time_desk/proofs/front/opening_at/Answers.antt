use Rattle.std.proofs.Common.{◌≡◌, None, false}
use Rattle.time_desk.specs.Fronts.{FailsFront}
use Rattle.time_desk.specs.Opening.{fits}
use Rattle.time_desk.specs.Standing.{Fails}
use Rattle.time_desk.proofs.Fronts.{front_spelled, front_unspelled}
use Rattle.time_desk.proofs.Standings.{if_err, if_ok}
use Rattle.time_desk.proofs.front.opening_at.Goals as goal

pub returns-in-Ok-clause-first : goal.returns-in-Ok-clause-first
returns-in-Ok-clause-first g c payloads payload holds lies =
    if_ok c.opening_of.result _ _ (λ parts is. record { what = c.in-Ok.what; spells = c.in-Ok.ensures.read payloads payload holds lies; is = is }) c.opening_of.ensures.first

pub returns-in-Ok-clause-bad : goal.returns-in-Ok-clause-bad
returns-in-Ok-clause-bad g c payloads payload holds lies =
    let spells = c.in-Ok.ensures.read payloads payload holds lies in
    if_err c.opening_of.result (Fails (fits None c.in-Ok.what ≡ false) c.args.place.gate) (FailsFront None payload c.args.place.gate)
    (λ fault. front_spelled None c.in-Ok.what payload c.args.place.gate fault (λ other spelled. c.one_spelling.ensures.one_record other c.in-Ok.what payload spelled spells)) c.opening_of.ensures.bad

pub returns-in-Err-clause-bad : goal.returns-in-Err-clause-bad
returns-in-Err-clause-bad g c payloads payload holds lies = front_unspelled None payload c.args.place.gate c.in-Err.fault (c.in-Err.ensures.bad payloads payload holds lies)
