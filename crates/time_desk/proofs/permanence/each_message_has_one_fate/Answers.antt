use Rattle.time_desk.proofs.States.{fate_of}
use Rattle.time_desk.proofs.permanence.each_message_has_one_fate.Goals as goal

pub returns : goal.returns
returns c = λ records kept before later i u key is. fate_of records kept is before later i u key
