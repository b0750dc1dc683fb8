use Rattle.withdraw.proofs.Texts.{texts_back}
use Rattle.withdraw.proofs.laws.bodies_keep_their_texts.Goals as goal

pub returns : goal.returns
returns c = texts_back
