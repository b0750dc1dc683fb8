use Rattle.desk_journal.proofs.Founded.{front_sound}
use Rattle.desk_journal.proofs.laws.fronts_are_sound.Goals as goal

pub returns-clause-sound : goal.returns-clause-sound
returns-clause-sound c = λ records kept is. (front_sound records kept is).0

pub returns-clause-revs : goal.returns-clause-revs
returns-clause-revs c = λ records kept is. (front_sound records kept is).1.revs

pub returns-clause-first : goal.returns-clause-first
returns-clause-first c = λ records kept is. let first = (front_sound records kept is).1 in (first.undone, first.unmarked)
