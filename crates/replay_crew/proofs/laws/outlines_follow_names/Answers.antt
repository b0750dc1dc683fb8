use Rattle.replay_crew.proofs.OutlineSteps.{aims_on_outline, step_outline}
use Rattle.replay_crew.proofs.laws.outlines_follow_names.Goals as goal

pub returns-clause-goes_on : goal.returns-clause-goes_on
returns-clause-goes_on c = step_outline

pub returns-clause-aims : goal.returns-clause-aims
returns-clause-aims c = aims_on_outline
