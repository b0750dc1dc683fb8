use Rattle.std.proofs.Common.{sym, arith}
use Rattle.smtp_lines.proofs.Marked.{held_marked}
use Rattle.smtp_lines.proofs.buffer.with_mark.Goals as goal

pub returns-clause-value : goal.returns-clause-value
returns-clause-value c = sym (held_marked c.args.bytes.now (let l = c.requires in omega arith))
