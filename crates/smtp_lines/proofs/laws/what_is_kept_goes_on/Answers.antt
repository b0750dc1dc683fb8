use Rattle.smtp_lines.proofs.Shortened.{lines_kept, rest_kept}
use Rattle.smtp_lines.proofs.laws.what_is_kept_goes_on.Goals as goal

pub returns-clause-lines : goal.returns-clause-lines
returns-clause-lines c = lines_kept

pub returns-clause-rest : goal.returns-clause-rest
returns-clause-rest c = rest_kept
