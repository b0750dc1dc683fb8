use Rattle.std.proofs.Common.{rules, is_lt}
use Rattle.std.specs.Cmp.Lexicographic.{nat_list_cmp_total}
use Rattle.std.proofs.lemmas.Fn.{always_returns_same}
use Rattle.store_kept.specs.Kept.{key_cmp}
use Rattle.desk_journal.proofs.Once.{rising_answer}
use Rattle.desk_journal.proofs.bases.reports_rise.Goals as goal

pub returns : goal.returns
returns c =
    rising_answer key_cmp nat_list_cmp_total c.args.reports.now c.is_sorted_by.result
    (c.is_sorted_by.ensures.cases (λ a b. is_lt (key_cmp a.0 b.0)) (always_returns_same _ _ _ (λ a r f called. search rules)))
