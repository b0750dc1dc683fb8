use Rattle.script_link.proofs.Spelling.{tilde_some}
use Rattle.script_link.proofs.texts.marked_byte.Goals as goal

pub returns-in-Some-clause-some : goal.returns-in-Some-clause-some
returns-in-Some-clause-some c = tilde_some _ _ _ _ c.requires.some c.requires.tilde c.after.ensures c.in-Some.ensures.some
