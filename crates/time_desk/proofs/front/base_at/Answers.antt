use Rattle.std.proofs.Common.{◌≡◌, Some, false}
use Rattle.time_desk.specs.Fronts.{FailsFront, fore_at}
use Rattle.time_desk.specs.Opening.{fits}
use Rattle.time_desk.specs.Standing.{Fails}
use Rattle.time_desk.proofs.Fronts.{base_spelled, front_spelled, front_unspelled}
use Rattle.time_desk.proofs.Standings.{if_err, if_ok}
use Rattle.time_desk.proofs.front.base_at.Goals as goal

pub returns-in-Ok-clause-base : goal.returns-in-Ok-clause-base
returns-in-Ok-clause-base g c payloads payload holds lies =
    if_ok c.base_of.result _ _ (λ base is. record { what = c.in-Ok.what; spells = c.in-Ok.ensures.read payloads payload holds lies; is = is }) c.base_of.ensures.base

pub returns-in-Ok-clause-spelled : goal.returns-in-Ok-clause-spelled
returns-in-Ok-clause-spelled g c = if_ok c.base_of.result _ _ (λ base. base_spelled c.in-Ok.what base c.in-Ok.ensures.spelled) c.base_of.ensures.base

pub returns-in-Ok-clause-bad : goal.returns-in-Ok-clause-bad
returns-in-Ok-clause-bad g c payloads payload house conf holds lies =
    let fore = fore_at house conf in
    let spells = c.in-Ok.ensures.read payloads payload holds lies in
    if_err c.base_of.result (Fails (fits (Some fore) c.in-Ok.what ≡ false) c.args.place.gate) (FailsFront (Some fore) payload c.args.place.gate)
    (λ fault. front_spelled (Some fore) c.in-Ok.what payload c.args.place.gate fault (λ other spelled. c.one_spelling.ensures.one_record other c.in-Ok.what payload spelled spells)) (c.base_of.ensures.bad house conf)

pub returns-in-Err-clause-bad : goal.returns-in-Err-clause-bad
returns-in-Err-clause-bad g c payloads payload house conf holds lies =
    front_unspelled (Some (fore_at house conf)) payload c.args.place.gate c.in-Err.fault (c.in-Err.ensures.bad payloads payload holds lies)
