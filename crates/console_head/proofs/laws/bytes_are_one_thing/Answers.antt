use Rattle.console_head.proofs.Once.{says_once}
use Rattle.console_head.proofs.laws.bytes_are_one_thing.Goals as goal

pub returns : goal.returns
returns c = says_once
