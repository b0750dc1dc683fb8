use Rattle.time_desk.proofs.States.{recipient_of, stray_of}
use Rattle.time_desk.proofs.permanence.deliveries_arrive.Goals as goal

pub returns-clause-recipients : goal.returns-clause-recipients
returns-clause-recipients c = λ records kept before later i from to text u is. recipient_of records kept is before later i from to text u

pub returns-clause-unknown : goal.returns-clause-unknown
returns-clause-unknown c = λ records kept before later i from to text is. stray_of records kept is before later i from to text
