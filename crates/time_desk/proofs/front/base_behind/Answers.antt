use Rattle.std.specs.Prelude.{IfErr, IfOk}
use Rattle.time_desk.specs.Fronts.{FailsFront, FailsSecond, SecondIs, SpellsBase, fore_at}
use Rattle.time_desk.proofs.Founding.{fails_second, few_payloads, has_second, second_is}
use Rattle.time_desk.proofs.Standings.{if_err, if_ok}
use Rattle.time_desk.proofs.front.base_behind.Goals as goal

pub returns-clause-base : goal.returns-clause-base
returns-clause-base g c payloads holds are =
    let second = has_second payloads c.args.places.now c.nth.result are c.nth.ensures in
    if_ok c.base_at.result _ _ (λ base. second_is payloads c.args.places.now c.nth.result base second) (c.base_at.ensures.base payloads second.payload holds second.lies)

pub returns-clause-bad : goal.returns-clause-bad
returns-clause-bad g c payloads house conf holds are =
    let second = has_second payloads c.args.places.now c.nth.result are c.nth.ensures in
    if_err c.base_at.result _ _ (λ fault. fails_second (fore_at house conf) payloads c.args.places.now c.nth.result fault second) (c.base_at.ensures.bad payloads second.payload house conf holds second.lies)
