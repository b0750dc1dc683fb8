-- Along the records.
use Rattle.snapshot_laws.proofs.Counting.{houses, since_first, since_snapshot, taken_are}
use Rattle.snapshot_laws.proofs.laws.counts_are_the_records.Goals as goal

pub returns-clause-taken : goal.returns-clause-taken
returns-clause-taken c = taken_are

pub returns-clause-since : goal.returns-clause-since
returns-clause-since c = λ before after items conf rows then kept is e none. since_snapshot then items conf rows before after kept is e none

pub returns-clause-first : goal.returns-clause-first
returns-clause-first c = since_first

pub returns-clause-house : goal.returns-clause-house
returns-clause-house c = houses
