use Rattle.std.proofs.Common.{rules}
use Rattle.std.proofs.lemmas.Fn.{always_returns_same}
use Rattle.desk_journal.specs.Once.{comes_before}
use Rattle.desk_journal.proofs.bases.do_rise.Goals as goal

pub returns : goal.returns
returns c = c.is_sorted_by.ensures.cases comes_before (always_returns_same _ _ _ (λ a r f called. search rules))
