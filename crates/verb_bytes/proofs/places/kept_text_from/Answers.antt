use Rattle.verb_bytes.proofs.Found.{kept_text_lies}
use Rattle.verb_bytes.proofs.places.kept_text_from.Goals as goal

pub returns-clause-lies : goal.returns-clause-lies
returns-clause-lies c = λ text short e. kept_text_lies c.args.item.now c.before_kept_text.result text c.before_kept_text.ensures short e
