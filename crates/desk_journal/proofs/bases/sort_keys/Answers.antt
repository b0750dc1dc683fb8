use Rattle.std.proofs.Common.{rules}
use Rattle.std.proofs.lemmas.Fn.{always_returns_same}
use Rattle.std.proofs.lemmas.List.Sorted.{ranks_by}
use Rattle.desk_journal.specs.Once.{comes_before}
use Rattle.desk_journal.proofs.Once.{held_total}
use Rattle.desk_journal.proofs.bases.sort_keys.Goals as goal

pub returns-clause-ordered : goal.returns-clause-ordered
returns-clause-ordered c = c.sort_unstable_by.ensures.sorted comes_before (ranks_by held_total (λ x. x)) (always_returns_same _ _ _ (λ a r f called. search rules))
