use Rattle.verb_bytes.proofs.TextsLie.{texts_lie}
use Rattle.verb_bytes.proofs.laws.texts_lie_at_their_places.Goals as goal

pub returns : goal.returns
returns c = texts_lie
