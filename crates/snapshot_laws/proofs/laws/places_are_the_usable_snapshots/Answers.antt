-- Along the records.
use Rattle.snapshot_laws.proofs.Members.{contains_of, in_of}
use Rattle.snapshot_laws.proofs.Standing.{stands}
use Rattle.snapshot_laws.proofs.laws.places_are_the_usable_snapshots.Goals as goal

pub returns-clause-usable : goal.returns-clause-usable
returns-clause-usable c = λ records kept is n there. (stands records kept is).usable n (in_of n kept.marks.places there)

pub returns-clause-there : goal.returns-clause-there
returns-clause-there c = λ records kept is n usable. contains_of n kept.marks.places ((stands records kept is).there n usable)
