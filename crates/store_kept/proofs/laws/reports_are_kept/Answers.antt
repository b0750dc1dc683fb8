use Rattle.store_kept.proofs.Rows.{found_as_before, found_itself, placed_rises}
use Rattle.store_kept.proofs.laws.reports_are_kept.Goals as goal

pub returns-clause-itself : goal.returns-clause-itself
returns-clause-itself c = found_itself

pub returns-clause-others : goal.returns-clause-others
returns-clause-others c = found_as_before

pub returns-clause-rising : goal.returns-clause-rising
returns-clause-rising c = λ reports key report rising. placed_rises key report reports rising
