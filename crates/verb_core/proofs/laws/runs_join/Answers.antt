use Rattle.verb_core.proofs.Joins.{answers_behind, answers_joined, run_joined}
use Rattle.verb_core.proofs.laws.runs_join.Goals as goal

pub returns : goal.returns
returns c = record { store = run_joined; answers = answers_joined; behind = answers_behind }
