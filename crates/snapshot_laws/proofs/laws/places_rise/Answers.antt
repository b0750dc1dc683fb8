-- Along the records.
use Rattle.snapshot_laws.proofs.Members.{in_of, increasing_of}
use Rattle.snapshot_laws.proofs.Standing.{stands}
use Rattle.snapshot_laws.proofs.laws.places_rise.Goals as goal

pub returns-clause-rise : goal.returns-clause-rise
returns-clause-rise c = λ records kept is. increasing_of kept.marks.places (stands records kept is).rises

pub returns-clause-within : goal.returns-clause-within
returns-clause-within c = λ records kept is n there. (stands records kept is).within n (in_of n kept.marks.places there)
