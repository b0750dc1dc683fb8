use Rattle.dialog_laws.proofs.Stretches.{reader_events_join}
use Rattle.dialog_laws.proofs.events.imap_client_events_join.Goals as goal

pub returns : goal.returns
returns c = reader_events_join
