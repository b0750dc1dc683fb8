use Rattle.privacy_laws.proofs.OthersSteps.{others_perform}
use Rattle.privacy_laws.proofs.others_steps.others_perform_items.Goals as goal

pub returns : goal.returns
returns c house u own s steps agree are = others_perform house u own s steps agree are
