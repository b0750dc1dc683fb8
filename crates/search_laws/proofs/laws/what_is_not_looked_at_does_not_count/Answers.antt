-- A key means the same of a message whatever stands where it does not look.
use Rattle.search_laws.proofs.Looking.{text_aside, size_aside}
use Rattle.search_laws.proofs.laws.what_is_not_looked_at_does_not_count.Goals as goal

pub returns-clause-text : goal.returns-clause-text
returns-clause-text c = text_aside

pub returns-clause-size : goal.returns-clause-size
returns-clause-size c = size_aside
