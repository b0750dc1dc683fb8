use Rattle.privacy_laws.proofs.OthersSteps.{others_leave}
use Rattle.privacy_laws.proofs.others_steps.others_steps_leave_agreement.Goals as goal

pub returns : goal.returns
returns c house u own s t is js agree same = others_leave house u own s t is js agree same
