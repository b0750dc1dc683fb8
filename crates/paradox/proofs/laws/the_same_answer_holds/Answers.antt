use Rattle.paradox.specs.Answers.{looks_at_texts}
use Rattle.paradox.proofs.Holding.{holds}
use Rattle.paradox.proofs.laws.the_same_answer_holds.Goals as goal

pub returns : goal.returns
returns c = λ item. holds (looks_at_texts item.deed) item.shown
