use Rattle.verb_core.proofs.NoTwice.{once-step}
use Rattle.verb_core.proofs.Runs.{one_fate-step}
use Rattle.verb_core.proofs.laws.messages_have_one_fate.Goals as goal

pub returns : goal.returns
returns c = record { single = once-step; fate = one_fate-step }
