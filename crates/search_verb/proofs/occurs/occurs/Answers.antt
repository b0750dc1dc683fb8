use Rattle.std.proofs.Common.{sym}
use Rattle.search_verb.proofs.Finding.{occurs_empty}
use Rattle.search_verb.proofs.occurs.occurs.Goals as goal

pub returns-in-empty : goal.returns-in-empty
returns-in-empty c = sym (occurs_empty c.args.string.now c.args.bytes.now c.in-empty.len_below)
