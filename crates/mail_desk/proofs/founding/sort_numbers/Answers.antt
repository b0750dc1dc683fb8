use Rattle.std.proofs.Common.{ℕ, rules}
use Rattle.std.proofs.lemmas.List.Sorted.{IsNonDecreasingBy-from_sort_by_key}
use Rattle.mail_desk.proofs.founding.sort_numbers.Goals as goal

pub returns-clause-ordered : goal.returns-clause-ordered
returns-clause-ordered c = IsNonDecreasingBy-from_sort_by_key (λ (n : ℕ). n) _ c.sort_unstable_by_key.ensures.sorted (λ a r q k. search rules)
