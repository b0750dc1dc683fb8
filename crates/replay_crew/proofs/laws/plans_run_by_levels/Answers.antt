use Rattle.replay_crew.proofs.LevelsRun.{plan_store, plan_told}
use Rattle.replay_crew.proofs.laws.plans_run_by_levels.Goals as goal

pub returns : goal.returns
returns c = record { store = plan_store; answers = plan_told }
