use Rattle.paradox.specs.Answers.{looks_at_texts}
use Rattle.paradox.proofs.Reasons.{never_withdrawn}
use Rattle.paradox.proofs.laws.no_answer_withdraws.Goals as goal

pub returns : goal.returns
returns c = λ item now. never_withdrawn (looks_at_texts item.deed) item.shown now
