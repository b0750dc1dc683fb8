use Rattle.repair_desk.proofs.Texts.{old_text, one_text}
use Rattle.repair_desk.proofs.laws.bodies_keep_their_texts.Goals as goal

pub returns : goal.returns
returns c = record { back = old_text; same = one_text }
