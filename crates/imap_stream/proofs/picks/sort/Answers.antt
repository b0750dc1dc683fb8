use Rattle.std.proofs.Common.{◌≤◌, sym, rules}
use Rattle.std.proofs.lemmas.List.Sorted.{IsNonDecreasingBy-from_sort_by_key, list_any-IsPermutation, All-permutation}
use Rattle.imap_stream.specs.declared.picks.Span.{Span}
use Rattle.imap_stream.specs.Spans.{in_span}
use Rattle.imap_stream.proofs.picks.sort.Goals as goal

pub returns-clause-sorted : goal.returns-clause-sorted
returns-clause-sorted c = IsNonDecreasingBy-from_sort_by_key (λ (s : Span). s.from) _ c.sort_unstable_by_key.ensures.sorted (λ a r q k. search rules)

pub returns-clause-same : goal.returns-clause-same
returns-clause-same c = λ p. sym (list_any-IsPermutation (in_span p) c.args.spans.now.items c.sort_unstable_by_key.new.self.items c.sort_unstable_by_key.ensures.permutation)

pub returns-clause-within : goal.returns-clause-within
returns-clause-within c =
    λ n all. All-permutation (λ (s : Span). s.to ≤ n) c.args.spans.now.items c.sort_unstable_by_key.new.self.items c.sort_unstable_by_key.ensures.permutation all
