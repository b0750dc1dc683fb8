use Rattle.verb_bytes.proofs.AskedRanges.{upgrade_is_spelled}
use Rattle.verb_bytes.proofs.laws.upgrades_have_spellings.Goals as goal

pub returns : goal.returns
returns c = λ at t. upgrade_is_spelled at t
