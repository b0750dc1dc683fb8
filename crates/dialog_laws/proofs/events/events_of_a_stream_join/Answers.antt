use Rattle.dialog_laws.proofs.Pieces.{client_pieces, fetcher_pieces, reader_pieces}
use Rattle.dialog_laws.proofs.events.events_of_a_stream_join.Goals as goal

pub returns-clause-client : goal.returns-clause-client
returns-clause-client c = client_pieces c.what_is_kept_goes_on.ensures.lines c.what_is_kept_goes_on.ensures.rest

pub returns-clause-reader : goal.returns-clause-reader
returns-clause-reader c = reader_pieces

pub returns-clause-fetching : goal.returns-clause-fetching
returns-clause-fetching c = fetcher_pieces c.what_is_kept_goes_on.ensures.lines c.what_is_kept_goes_on.ensures.rest
