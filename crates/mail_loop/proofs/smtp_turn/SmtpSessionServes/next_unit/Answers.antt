use Rattle.mail_loop.specs.State.{Smtp}
use Rattle.mail_loop.specs.SmtpTurn.{takes}
use Rattle.mail_loop.proofs.Nexts.{line_taken, line_wanted}
use Rattle.mail_loop.proofs.smtp_turn.SmtpSessionServes.next_unit.Goals as goal

pub returns-clause-next : goal.returns-clause-next
returns-clause-next c = line_taken Smtp (λ users. takes) c.args.stream.now c.next.new.self c.next.result c.next.ensures.next

pub returns-clause-err : goal.returns-clause-err
returns-clause-err c = line_wanted c.args.stream.now c.next.new.self c.next.result c.next.ensures.err
