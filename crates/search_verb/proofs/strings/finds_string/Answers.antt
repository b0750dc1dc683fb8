use Rattle.std.proofs.Common.{sym}
use Rattle.search_verb.proofs.Lowering.{too_long}
use Rattle.search_verb.proofs.strings.finds_string.Goals as goal

pub returns-then-bytes-string : goal.returns-then-bytes-string
returns-then-bytes-string c = sym (too_long c.args.string.now c.args.bytes.now c.if-bytes-string.true)
