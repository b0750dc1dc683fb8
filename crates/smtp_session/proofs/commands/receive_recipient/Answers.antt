use Rattle.std.proofs.lemmas.Result.{IfOk-weaker}
use Rattle.smtp_session.specs.Recipients.{is_here}
use Rattle.smtp_session.proofs.Receiving.{received}
use Rattle.smtp_session.proofs.commands.receive_recipient.Goals as goal

pub returns-in-Begun-clause-ok : goal.returns-in-Begun-clause-ok
returns-in-Begun-clause-ok c =
    IfOk-weaker c.address.result _ _ (λ out turned.
    received c.args.house.now c.args.dialog.now c.in-Begun.path _ c.args.local.now (is_here c.args.house.now c.args.conf.now c.args.local.now c.args.domain.now) _
    c.in-Begun.is (turned c.args.dialog.now.client c.in-Begun.path)) c.address.ensures.ok
