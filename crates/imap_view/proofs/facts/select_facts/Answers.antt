use Rattle.imap_view.proofs.Unasked.{select_told}
use Rattle.imap_view.proofs.facts.select_facts.Goals as goal

pub returns : goal.returns
returns c = λ writes. select_told writes _ _ _ _ _ _ _ _ c.mail_of-entries.ensures.mail c.in_ok-number.ensures c.next_of.ensures c.stamp_of.ensures c.in_ok-first_unseen.ensures
