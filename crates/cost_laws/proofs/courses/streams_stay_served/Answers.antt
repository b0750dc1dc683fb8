use Rattle.cost_laws.proofs.Costs.{first_served, happens_served}
use Rattle.cost_laws.proofs.courses.streams_stay_served.Goals as goal

pub returns-clause-keeps : goal.returns-clause-keeps
returns-clause-keeps c = happens_served c.what_is_kept_goes_on.ensures.lines

pub returns-clause-runs : goal.returns-clause-runs
returns-clause-runs c = first_served (happens_served c.what_is_kept_goes_on.ensures.lines)
