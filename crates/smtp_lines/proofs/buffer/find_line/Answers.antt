use Rattle.std.proofs.Common.{subst, sym}
use Rattle.smtp_lines.specs.Holding.{IsKept}
use Rattle.smtp_lines.proofs.buffer.find_line.Goals as goal

pub returns-else-over-clause-kept : goal.returns-else-over-clause-kept
returns-else-over-clause-kept c = subst (λ o. IsKept o c.take_line.new.given c.take_line.new.passed c.args.bytes.now) (sym c.if-over.false) c.take_line.ensures.passed
