use Rattle.verb_bytes.proofs.Around.{body_from}
use Rattle.verb_bytes.proofs.holes.text_from.Goals as goal

pub returns-in-Text : goal.returns-in-Text
returns-in-Text c = λ text e. body_from c.args.what.now c.in-Text.body c.in-Text.text c.body_text_from.result c.in-Text.is (c.body_text_from.ensures.from c.in-Text.body c.in-Text.text)
