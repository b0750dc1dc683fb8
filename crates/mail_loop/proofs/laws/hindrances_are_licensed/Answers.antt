use Rattle.mail_loop.proofs.Licences.{client_licensed, fetching_licensed, reader_licensed}
use Rattle.mail_loop.proofs.laws.hindrances_are_licensed.Goals as goal

pub returns-clause-client : goal.returns-clause-client
returns-clause-client c h at kept others d line = client_licensed h at kept others d line

pub returns-clause-fetching : goal.returns-clause-fetching
returns-clause-fetching c h at kept others d line = fetching_licensed h at kept others d line

pub returns-clause-reader : goal.returns-clause-reader
returns-clause-reader c h at kept others d next = reader_licensed h at kept others d next
