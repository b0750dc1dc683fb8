use Rattle.console_head.proofs.Once.{says_stays}
use Rattle.console_head.proofs.laws.what_is_decided_stays.Goals as goal

pub returns : goal.returns
returns c = says_stays
