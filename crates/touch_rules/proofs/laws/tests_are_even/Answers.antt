use Rattle.touch_rules.proofs.Fitting.{commute_flip, independent_flip, independent_commute}
use Rattle.touch_rules.proofs.laws.tests_are_even.Goals as goal

pub returns : goal.returns
returns c = record { commute = commute_flip; independent = independent_flip; weaker = independent_commute }
