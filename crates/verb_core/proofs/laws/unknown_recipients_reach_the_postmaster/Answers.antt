use Rattle.verb_core.proofs.Strays.{comes-step}
use Rattle.verb_core.proofs.laws.unknown_recipients_reach_the_postmaster.Goals as goal

pub returns : goal.returns
returns c = comes-step
