use Rattle.mail_cycle.proofs.Parts.{few_items, items_told}
use Rattle.mail_cycle.proofs.telling.tell_users.Goals as goal

pub returns-in-Ok-clause-few : goal.returns-in-Ok-clause-few
returns-in-Ok-clause-few c = few_items c.args.due.now.kept.house _ _ _ _ _ _ _ c.in_ok-notices.ensures.items c.as_slice.ensures c.in-Ok.ensures

pub returns-in-Ok-clause-formed : goal.returns-in-Ok-clause-formed
returns-in-Ok-clause-formed c = items_told c.args.due.now.kept.house _ _ _ _ _ c.in_ok-notices.ensures.items
