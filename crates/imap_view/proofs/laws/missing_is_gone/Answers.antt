use Rattle.imap_view.proofs.Gone.{rows_as_keys}
use Rattle.imap_view.proofs.laws.missing_is_gone.Goals as goal

pub returns : goal.returns
returns c = λ sizes entries view places keeps. (rows_as_keys sizes entries view places keeps).1
