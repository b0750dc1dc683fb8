use Rattle.verb_bytes.proofs.AskedRanges.{act_is_spelled}
use Rattle.verb_bytes.proofs.laws.acts_have_spellings.Goals as goal

pub returns : goal.returns
returns c = λ number at act n t h. act_is_spelled number at act n t h
