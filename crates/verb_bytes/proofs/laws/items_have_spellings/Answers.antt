use Rattle.verb_bytes.proofs.AskedRanges.{item_is_spelled}
use Rattle.verb_bytes.proofs.laws.items_have_spellings.Goals as goal

pub returns : goal.returns
returns c = λ item h. item_is_spelled item h
