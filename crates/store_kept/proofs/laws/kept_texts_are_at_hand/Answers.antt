use Rattle.store_kept.proofs.Coming.{kept_at_hand}
use Rattle.store_kept.proofs.laws.kept_texts_are_at_hand.Goals as goal

pub returns : goal.returns
returns c = kept_at_hand
