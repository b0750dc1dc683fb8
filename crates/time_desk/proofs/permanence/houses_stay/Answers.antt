use Rattle.time_desk.proofs.States.{kept_house, led_house}
use Rattle.time_desk.proofs.permanence.houses_stay.Goals as goal

pub returns-clause-kept : goal.returns-clause-kept
returns-clause-kept c = λ records kept is. kept_house records kept is

pub returns-clause-led : goal.returns-clause-led
returns-clause-led c = λ records kept items is. led_house records kept is items
