use Rattle.cost_laws.proofs.Events.{event_leaves, event_performs, fresh_served}
use Rattle.cost_laws.proofs.items.events_perform_few_items.Goals as goal

pub returns-clause-items : goal.returns-clause-items
returns-clause-items c = event_performs

pub returns-clause-served : goal.returns-clause-served
returns-clause-served c = event_leaves c.what_is_kept_goes_on.ensures.lines

pub returns-clause-opens : goal.returns-clause-opens
returns-clause-opens c = fresh_served
