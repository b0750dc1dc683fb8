use Rattle.std.proofs.lemmas.Grind.{common_steps}
use Rattle.std.proofs.Common.{arith}
use Rattle.civil_dates.specs.Dates.{imap_date}
use Rattle.civil_dates.proofs.dates.push_imap_date.Goals as goal

pub returns-clause-ok : goal.returns-clause-ok
unfolding imap_date
returns-clause-ok c = grind (arith, common_steps)
