use Rattle.verb_core.proofs.FlatLaws.{opening-IsFlat, run_same, answers_same}
use Rattle.verb_core.proofs.laws.old_items_keep_their_meaning.Goals as goal

pub returns : goal.returns
returns c = record { opening = opening-IsFlat; store = run_same; answers = answers_same }
