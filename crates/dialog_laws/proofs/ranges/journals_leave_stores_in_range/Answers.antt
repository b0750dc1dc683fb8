use Rattle.dialog_laws.proofs.Standing.{journal_stored, plain_stored}
use Rattle.dialog_laws.proofs.ranges.journals_leave_stores_in_range.Goals as goal

pub returns-clause-plain : goal.returns-clause-plain
returns-clause-plain c = plain_stored

pub returns-clause-based : goal.returns-clause-based
returns-clause-based c = journal_stored
