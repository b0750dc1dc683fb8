use Rattle.time_desk.proofs.Soundness.{records_follow, records_stay}
use Rattle.time_desk.proofs.permanence.records_let_uids_last.Goals as goal

pub returns-clause-lasts : goal.returns-clause-lasts
returns-clause-lasts c = λ old new more sound revs back is. (records_follow more old new sound is).lasts revs back

pub returns-clause-stays : goal.returns-clause-stays
returns-clause-stays c = λ old new more sound is none. records_stay more old new sound is none

pub returns-clause-sound : goal.returns-clause-sound
returns-clause-sound c = λ old new more sound is. (records_follow more old new sound is).sound

pub returns-clause-revs : goal.returns-clause-revs
returns-clause-revs c = λ old new more sound revs back is. ((records_follow more old new sound is).texts revs back).0

pub returns-clause-back : goal.returns-clause-back
returns-clause-back c = λ old new more sound revs back is. ((records_follow more old new sound is).texts revs back).1
