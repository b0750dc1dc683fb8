use Rattle.cost_laws.proofs.Visits.{mail_sealed}
use Rattle.cost_laws.proofs.mails.deliver_mail.Goals as goal

pub returns : goal.returns
returns g c =
    mail_sealed g.D.Disk.told c.args.desk.now c.submit.new.self c.args.mail c.submit.result c.requires.new c.requires.mail
    c.submit.ensures.ok c.submit.ensures.sealed c.submit.ensures.reads c.submit.ensures.finds_memory c.submit.ensures.closed
