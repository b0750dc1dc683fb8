use Rattle.imap_view.proofs.Told.{client_follows, client_has_all, length_of_view, lines_told}
use Rattle.imap_view.proofs.laws.a_client_follows.Goals as goal

pub returns-clause-lines : goal.returns-clause-lines
returns-clause-lines c = lines_told 0

pub returns-clause-front : goal.returns-clause-front
returns-clause-front c = client_follows

pub returns-clause-whole : goal.returns-clause-whole
returns-clause-whole c = client_has_all

pub returns-clause-length : goal.returns-clause-length
returns-clause-length c = length_of_view
