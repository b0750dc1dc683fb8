use Rattle.std.proofs.Common.{[], refl, ap, sym, subst}
use Rattle.imap_lines.specs.Command.{Reading, command_of}
use Rattle.imap_stream.specs.declared.next.Next.{Next}
use Rattle.imap_session.specs.declared.dialog.Dialog.{Dialog}
use Rattle.imap_session.specs.Words.{bad_line_text, ready_text}
use Rattle.mail_loop.specs.Asked.{HaveSealed}
use Rattle.mail_loop.specs.Turn.{Turn}
use Rattle.mail_loop.specs.Session.{hindered}
use Rattle.mail_loop.specs.Hindrance.{Hindrance, Clear}
use Rattle.mail_loop.specs.Took.{IsNone, Takes}
use Rattle.mail_loop.specs.ImapTurn.{imap_session}
use Rattle.mail_loop.specs.ImapTook.{obeyed_under}
use Rattle.mail_loop.proofs.Dialogs.{said_turn}
use Rattle.mail_loop.proofs.ImapTurns.{answered_turn, raw_turn, whatever_others}
use Rattle.mail_loop.proofs.Sealed.{unsealed}
use Rattle.mail_loop.proofs.Telling.{lifted_turn, told_nothing}
use Rattle.mail_loop.proofs.imap_turn.ImapSessionServes.take_unit.Goals as goal

pub returns-in-Ask-clause-turn : goal.returns-in-Ask-clause-turn
returns-in-Ask-clause-turn g c =
    let desk = c.args.desk.now in
    let d = c.args.self.now in
    let old = c.args.reply.now in
    let new = c.say.new.reply in
    let S = HaveSealed g.D.Disk.told desk desk in
    let f : Hindrance → Turn Dialog = λ h. hindered imap_session h c.args.at desk.kept [] d c.args.next in
    whatever_others S c.args.at desk.kept desk.kept c.args.next d d old new
    (lifted_turn S f old desk.kept d new (unsealed g.D.Disk.told c.seals_join.ensures.nothing desk)
    (said_turn ready_text c.ready.result.now desk.kept d old new f c.ready.ensures (ap (λ (n : Next). hindered imap_session Clear c.args.at desk.kept [] d n) c.in-Ask.is) refl c.say.ensures))

pub returns-in-Bad-clause-turn : goal.returns-in-Bad-clause-turn
returns-in-Bad-clause-turn g c =
    let desk = c.args.desk.now in
    let d = c.args.self.now in
    let old = c.args.reply.now in
    let new = c.answer.new in
    let S = HaveSealed g.D.Disk.told desk desk in
    let f : Hindrance → Turn Dialog = λ h. hindered imap_session h c.args.at desk.kept [] d c.args.next in
    whatever_others S c.args.at desk.kept desk.kept c.args.next d new.session old new.reply
    (lifted_turn S f old desk.kept new.session new.reply (unsealed g.D.Disk.told c.seals_join.ensures.nothing desk)
    (answered_turn (bad_line_text c.in-Bad.line) c.bad_line.result desk.kept d new.session old new.reply f Clear c.bad_line.ensures
    (ap (λ (n : Next). hindered imap_session Clear c.args.at desk.kept [] d n) c.in-Bad.is) refl c.answer.ensures.answered))

pub returns-clause-turn : goal.returns-clause-turn
returns-clause-turn g c =
    let desk = c.args.desk.now in
    let d = c.args.self.now in
    let reply = c.args.reply.now in
    let S = HaveSealed g.D.Disk.told desk desk in
    let f : Hindrance → Turn Dialog = λ h. hindered imap_session h c.args.at desk.kept [] d c.args.next in
    whatever_others S c.args.at desk.kept desk.kept c.args.next d d reply reply
    (lifted_turn S f reply desk.kept d reply (unsealed g.D.Disk.told c.seals_join.ensures.nothing desk) (
      Clear,
      subst (λ (n : Next). Takes IsNone (hindered imap_session Clear c.args.at desk.kept [] d n) reply desk.kept d reply) (sym c.in-NotYet.is) (told_nothing desk.kept d reply reply c.requires.stays refl),
    ))

pub returns-in-Ok-clause-turn : goal.returns-in-Ok-clause-turn
returns-in-Ok-clause-turn g c =
    let desk = c.args.desk.now in
    let d = c.args.self.now in
    let old = c.args.reply.now in
    let new = c.take_command.new in
    let S = HaveSealed g.D.Disk.told desk new.desk in
    raw_turn S c.args.at desk.kept new.desk.kept c.args.next c.in-Command.raw d new.session old new.reply c.in-Command.is
    (subst (λ (r : Reading). (h : Hindrance) × Takes S (obeyed_under h c.args.at desk.kept d r) old new.desk.kept new.session new.reply) (sym c.in-Ok.ensures) c.take_command.ensures.turn)

pub returns-in-Command-clause-turn : goal.returns-in-Command-clause-turn
returns-in-Command-clause-turn g c =
    let desk = c.args.desk.now in
    let d = c.args.self.now in
    let old = c.args.reply.now in
    let new = c.refuse.new in
    let S = HaveSealed g.D.Disk.told desk desk in
    let reading = command_of c.in-Command.raw in
    let f : Hindrance → Turn Dialog = λ h. obeyed_under h c.args.at desk.kept d reading in
    raw_turn S c.args.at desk.kept desk.kept c.args.next c.in-Command.raw d new.session old new.reply c.in-Command.is
    (lifted_turn S f old desk.kept new.session new.reply (unsealed g.D.Disk.told c.seals_join.ensures.nothing desk) (c.refuse.ensures.turn c.args.at desk.kept reading c.in-Err.ensures))
