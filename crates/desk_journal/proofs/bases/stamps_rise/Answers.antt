use Rattle.std.proofs.Common.{rules, is_lt}
use Rattle.std.proofs.lemmas.Fn.{always_returns_same}
use Rattle.verb_core.specs.Boxes.{box_cmp}
use Rattle.verb_core.proofs.BoxLaws.{boxes_total}
use Rattle.desk_journal.proofs.Once.{rising_answer}
use Rattle.desk_journal.proofs.bases.stamps_rise.Goals as goal

pub returns : goal.returns
returns c =
    rising_answer box_cmp boxes_total c.args.stamps.now c.is_sorted_by.result
    (c.is_sorted_by.ensures.cases (λ a b. is_lt (box_cmp a.0 b.0)) (always_returns_same _ _ _ (λ a r f called. search rules)))
