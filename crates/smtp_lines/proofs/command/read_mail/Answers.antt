use Rattle.std.specs.Prelude.{codes}
use Rattle.smtp_lines.specs.declared.command.SmtpCommand.TheVariants.{Mail}
use Rattle.smtp_lines.specs.Path.{path_at, path_of}
use Rattle.smtp_lines.proofs.Spoken.{path_read}
use Rattle.smtp_lines.proofs.command.read_mail.Goals as goal

pub returns-in-None-read_tail : goal.returns-in-None-read_tail
returns-in-None-read_tail c =
    path_read Mail path_of (path_at (codes "FROM:") c.args.argument.now) _ _ _ c.make_mail.result
    c.path_behind-rest.ensures c.in-Some.ensures c.behind.ensures c.in-None-read_tail.ensures c.make_mail.ensures
