-- The last of marks that rise.
use Rattle.snapshot_laws.proofs.Marks.{newest_at_most, newest_before, newest_found, none_before}
use Rattle.snapshot_laws.proofs.laws.newest_mark_is_the_greatest.Goals as goal

pub returns-clause-one : goal.returns-clause-one
returns-clause-one c = newest_found

pub returns-clause-before : goal.returns-clause-before
returns-clause-before c = newest_before

pub returns-clause-greatest : goal.returns-clause-greatest
returns-clause-greatest c = newest_at_most

pub returns-clause-none : goal.returns-clause-none
returns-clause-none c = none_before
