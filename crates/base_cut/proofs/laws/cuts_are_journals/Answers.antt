use Rattle.base_cut.proofs.Unfinished.{stands_closed}
use Rattle.base_cut.proofs.laws.cuts_are_journals.Goals as goal

pub returns-clause-stands : goal.returns-clause-stands
returns-clause-stands c payloads short = stands_closed payloads short
