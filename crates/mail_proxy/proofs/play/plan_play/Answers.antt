use Rattle.mail_proxy.specs.Plans.{end_of}
use Rattle.mail_proxy.specs.Script.{PlaysText}
use Rattle.mail_proxy.proofs.Texts.{from_unread, same_end}
use Rattle.mail_proxy.proofs.play.plan_play.Goals as goal

pub returns-in-Err : goal.returns-in-Err
returns-in-Err g c =
    let told = g.S.Source.told in
    from_unread c.args.disk (PlaysText c.args.disk) (told c.args.text.now) (told c.read_text.new.source) (end_of c.unread.result c.args.disk)
    c.in-Err.refused c.in-Err.ensures (same_end c.unread.ensures.status c.unread.ensures.output)
