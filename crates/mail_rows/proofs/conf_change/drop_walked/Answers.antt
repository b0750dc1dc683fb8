use Rattle.std.proofs.Common.{rules}
use Rattle.std.proofs.lemmas.Fn.{filter_same}
use Rattle.mail_rows.specs.Confs.{has_other_id}
use Rattle.mail_rows.proofs.conf_change.drop_walked.Goals as goal

pub returns-clause-list : goal.returns-clause-list
returns-clause-list c = filter_same _ (has_other_id c.args.id.now) _ (λ x b f k. search rules) _ _ c.retain.ensures.filtered
