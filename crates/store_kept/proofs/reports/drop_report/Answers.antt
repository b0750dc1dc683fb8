use Rattle.std.proofs.Common.{rules}
use Rattle.std.proofs.lemmas.Fn.{filter_same}
use Rattle.store_kept.specs.Places.{has_other_key}
use Rattle.store_kept.proofs.reports.drop_report.Goals as goal

pub returns-clause-items : goal.returns-clause-items
returns-clause-items c = filter_same _ (has_other_key c.args.key.now) _ (λ x b f k. search rules) _ _ c.retain.ensures.filtered
