use Rattle.imap_view.proofs.Unasked.{status_told}
use Rattle.imap_view.proofs.facts.status_facts.Goals as goal

pub returns : goal.returns
returns c = status_told c.args.name.now _ _ _ _ _ _ _ _ _ _ c.as_slice.ensures c.mail_of-entries.ensures.mail c.in_ok-number.ensures c.next_of.ensures c.stamp_of.ensures c.in_ok-count_asked.ensures
