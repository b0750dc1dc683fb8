use Rattle.std.specs.Prelude.{codes}
use Rattle.std.proofs.Common.{sym}
use Rattle.smtp_lines.specs.Command.{recipient, recipient_path}
use Rattle.smtp_lines.specs.Path.{path_at}
use Rattle.smtp_lines.proofs.Named.{recipient_found}
use Rattle.smtp_lines.proofs.Spoken.{path_read}
use Rattle.smtp_lines.proofs.command.read_rcpt.Goals as goal

pub returns-in-None-read_tail : goal.returns-in-None-read_tail
returns-in-None-read_tail c =
    path_read recipient recipient_path (path_at (codes "TO:") c.args.argument.now) _ _ _ c.make_rcpt.result
    c.path_behind-rest.ensures c.in-Some.ensures c.behind.ensures c.in-None-read_tail.ensures c.make_rcpt.ensures

pub make_rcpt-requires-clause-is : goal.make_rcpt-requires-clause-is
make_rcpt-requires-clause-is c = (recipient_found c.path_behind-rest.result.now c.in-Some.path.now (sym c.in-Some.ensures)).0

pub make_rcpt-requires-clause-shows : goal.make_rcpt-requires-clause-shows
make_rcpt-requires-clause-shows c = (recipient_found c.path_behind-rest.result.now c.in-Some.path.now (sym c.in-Some.ensures)).1
