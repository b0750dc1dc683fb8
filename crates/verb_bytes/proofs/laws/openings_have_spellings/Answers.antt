use Rattle.verb_bytes.proofs.Ranges.{opening_is_spelled}
use Rattle.verb_bytes.proofs.laws.openings_have_spellings.Goals as goal

pub returns : goal.returns
returns c = λ house conf h. opening_is_spelled house conf h
