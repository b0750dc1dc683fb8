use Rattle.verb_core.proofs.AimNames.{sought_by-same}
use Rattle.verb_core.proofs.laws.aims_follow_names.Goals as goal

pub returns : goal.returns
returns c = sought_by-same
