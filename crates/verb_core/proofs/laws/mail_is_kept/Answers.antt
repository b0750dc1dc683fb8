use Rattle.verb_core.proofs.FateLaws.{count_held-step}
use Rattle.verb_core.proofs.laws.mail_is_kept.Goals as goal

pub returns : goal.returns
returns c = count_held-step
