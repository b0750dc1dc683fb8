use Rattle.dialog_laws.proofs.Stretches.{pop_client_events_join}
use Rattle.dialog_laws.proofs.events.pop_client_events_join.Goals as goal

pub returns : goal.returns
returns c = pop_client_events_join c.what_is_kept_goes_on.ensures.lines c.what_is_kept_goes_on.ensures.rest
