use Rattle.dialog_laws.proofs.Steps.{asked_keeping, opening_stored, run_stored, step_grows, step_stored}
use Rattle.dialog_laws.proofs.ranges.stores_stay_in_range.Goals as goal

pub returns-clause-opening : goal.returns-clause-opening
returns-clause-opening c = opening_stored

pub returns-clause-step : goal.returns-clause-step
returns-clause-step c = step_stored

pub returns-clause-grown : goal.returns-clause-grown
returns-clause-grown c = step_grows

pub returns-clause-run : goal.returns-clause-run
returns-clause-run c = run_stored

pub returns-clause-asked : goal.returns-clause-asked
returns-clause-asked c = asked_keeping
