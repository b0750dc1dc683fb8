use Rattle.verb_bytes.proofs.Found.{item_text_lies}
use Rattle.verb_bytes.proofs.places.item_text_from.Goals as goal

pub returns-clause-lies : goal.returns-clause-lies
returns-clause-lies c = λ text fits short e. item_text_lies c.args.item.now c.before_item_text.result text c.before_item_text.ensures short e
