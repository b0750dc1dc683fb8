use Rattle.verb_bytes.proofs.AskedRanges.{cycle_is_spelled}
use Rattle.verb_bytes.proofs.laws.cycles_have_spellings.Goals as goal

pub returns : goal.returns
returns c = λ number at ask n t h. cycle_is_spelled number at ask n t h
