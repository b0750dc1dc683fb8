use Rattle.dialog_laws.proofs.Stretches.{events_join}
use Rattle.dialog_laws.proofs.events.smtp_client_events_join.Goals as goal

pub returns : goal.returns
returns c = events_join c.what_is_kept_goes_on.ensures.lines c.what_is_kept_goes_on.ensures.rest
