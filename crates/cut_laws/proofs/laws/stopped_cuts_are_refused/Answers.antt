use Rattle.cut_laws.proofs.Stopped.{unfinished_told}
use Rattle.cut_laws.proofs.laws.stopped_cuts_are_refused.Goals as goal

pub returns : goal.returns
returns c = λ bytes are unfinished. unfinished_told c.one_spelling.ensures.one_record c.one_spelling.ensures.spelled_or_refused bytes are unfinished
