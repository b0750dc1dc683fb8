use Rattle.repair_desk.proofs.Growth.{step_extends}
use Rattle.repair_desk.proofs.laws.items_extend_mailboxes.Goals as goal

pub returns : goal.returns
returns c = step_extends
