use Rattle.mail_loop.proofs.SmtpTurns.{free_goes_on}
use Rattle.mail_loop.proofs.speaks.SmtpSessionSpeaks.take_texts.Goals as goal

pub returns-clause-next : goal.returns-clause-next
returns-clause-next c = free_goes_on c.args.texts.now c.new.result c.args.self.now c.requires
