use Rattle.verb_bytes.proofs.Forms.{is_formed, no_rev}
use Rattle.verb_bytes.proofs.laws.spelled_items_are_formed.Goals as goal

pub returns-clause-form : goal.returns-clause-form
returns-clause-form c = λ item fits. (is_formed item fits).0

pub returns-clause-keys : goal.returns-clause-keys
returns-clause-keys c = λ item fits. (is_formed item fits).1

pub returns-clause-rev : goal.returns-clause-rev
returns-clause-rev c = no_rev
