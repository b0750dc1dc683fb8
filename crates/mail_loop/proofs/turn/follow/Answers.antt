use Rattle.std.proofs.Common.{ap}
use Rattle.mail_loop.specs.declared.out.Out.TheVariants.{Read}
use Rattle.desk_journal.specs.Lasting.{Lasting}
use Rattle.mail_loop.specs.Asked.{HaveSealed}
use Rattle.mail_loop.proofs.Dialogs.{out_turn}
use Rattle.mail_loop.proofs.TextsRead.{awaited_unread, unread_followed}
use Rattle.mail_loop.proofs.turn.follow.Goals as goal

pub returns-in-Read-clause-turn : goal.returns-in-Read-clause-turn
returns-in-Read-clause-turn g c =
    let desk = c.args.desk.now in
    let new = c.read.new in
    out_turn g.S.Speaks.speech (HaveSealed g.D.Disk.told desk new.desk) c.args.at desk.kept new.desk.kept c.args.out (Read c.in-Read.bodies) c.args.session.now new.session c.args.reply.now new.reply c.in-Read.is c.read.ensures.turn

-- what wants no texts
pub go_on-requires-clause-awaited : goal.go_on-requires-clause-awaited
go_on-requires-clause-awaited g c = awaited_unread g.S.Speaks.speech c.args.out c.args.session.now (λ bodies is. c.in_default.not-Read bodies is) c.requires.awaited

pub returns-in_default-clause-turn : goal.returns-in_default-clause-turn
returns-in_default-clause-turn g c =
    let desk = c.args.desk.now in
    let new = c.go_on.new in
    unread_followed g.S.Speaks.speech (HaveSealed g.D.Disk.told desk new.desk) c.args.at desk.kept new.desk.kept c.args.out c.args.session.now new.session c.args.reply.now new.reply (λ bodies is. c.in_default.not-Read bodies is) c.go_on.ensures.turn

pub returns-in_default-clause-still : goal.returns-in_default-clause-still
returns-in_default-clause-still g c = λ is. let same = c.go_on.ensures.still is in (ap (λ (h : Lasting g.row.D.Denot). h.kept) same.0, same.1)
