use Rattle.verb_bytes.proofs.Forms.{kept_is_formed}
use Rattle.verb_bytes.proofs.laws.spelled_kept_items_are_formed.Goals as goal

pub returns-clause-form : goal.returns-clause-form
returns-clause-form c = λ item fits. (kept_is_formed item fits).0

pub returns-clause-keys : goal.returns-clause-keys
returns-clause-keys c = λ item fits. (kept_is_formed item fits).1
