use Rattle.verb_bytes.proofs.AskedRanges.{withdraw_is_spelled}
use Rattle.verb_bytes.proofs.laws.withdrawals_have_spellings.Goals as goal

pub returns : goal.returns
returns c = λ number at key of n t k o. withdraw_is_spelled number at key of n t k o
