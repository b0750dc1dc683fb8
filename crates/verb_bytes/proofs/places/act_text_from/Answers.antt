use Rattle.verb_bytes.proofs.Found.{act_text_lies}
use Rattle.verb_bytes.proofs.places.act_text_from.Goals as goal

pub returns-clause-lies : goal.returns-clause-lies
returns-clause-lies c = λ number at text e. act_text_lies number at c.args.act.now c.before_act_text.result text (c.before_act_text.ensures number at) e
