use Rattle.verb_bytes.proofs.Ranges.{delivery_is_spelled}
use Rattle.verb_bytes.proofs.laws.deliveries_have_spellings.Goals as goal

pub returns : goal.returns
returns c = λ number at from to text n t m. delivery_is_spelled number at from to text n t m
