use Rattle.std.proofs.Common.{sym}
use Rattle.script_link.proofs.Spelling.{plain_some}
use Rattle.script_link.proofs.texts.first_byte.Goals as goal

pub returns-then-is_plain-clause-some : goal.returns-then-is_plain-clause-some
returns-then-is_plain-clause-some c = plain_some c.args.text.now c.requires c.if-text-eq126.false (sym c.if-is_plain.ensures)
