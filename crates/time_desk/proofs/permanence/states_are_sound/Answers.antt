use Rattle.time_desk.proofs.Soundness.{state_holds, state_opening}
use Rattle.time_desk.proofs.permanence.states_are_sound.Goals as goal

pub returns-clause-sound : goal.returns-clause-sound
returns-clause-sound c = λ records kept is. (state_holds records kept is).0

pub returns-clause-revs : goal.returns-clause-revs
returns-clause-revs c = λ records kept is. (state_holds records kept is).1

pub returns-clause-back : goal.returns-clause-back
returns-clause-back c = λ records kept is. (state_holds records kept is).2

pub returns-clause-runs : goal.returns-clause-runs
returns-clause-runs c = λ records kept is. (state_holds records kept is).0.runs

pub returns-clause-opening : goal.returns-clause-opening
returns-clause-opening c = state_opening
