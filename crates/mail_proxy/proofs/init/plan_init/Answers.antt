use Rattle.mail_proxy.specs.Init.{Configures}
use Rattle.mail_proxy.specs.Plans.{end_of}
use Rattle.mail_proxy.proofs.Texts.{from_read, from_unread, same_end}
use Rattle.mail_proxy.proofs.init.plan_init.Goals as goal

pub returns-in-Ok : goal.returns-in-Ok
returns-in-Ok g c =
    let disk = g.D.Disk.told in
    let told = g.S.Source.told in
    from_read c.args.disk (Configures disk c.args.disk) (told c.args.text.now) (told c.read_text.new.source) (end_of c.configure.result.0 c.configure.result.1)
    c.in-Ok.text c.in-Ok.ensures c.configure.ensures

pub returns-in-Err : goal.returns-in-Err
returns-in-Err g c =
    let disk = g.D.Disk.told in
    let told = g.S.Source.told in
    from_unread c.args.disk (Configures disk c.args.disk) (told c.args.text.now) (told c.read_text.new.source) (end_of c.unread.result c.args.disk)
    c.in-Err.refused c.in-Err.ensures (same_end c.unread.ensures.status c.unread.ensures.output)
