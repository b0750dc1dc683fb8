use Rattle.std.proofs.Common.{sym, ap, refl, subst, ◌∙◌}
use Rattle.verb_core.specs.declared.conf.House.{House}
use Rattle.verb_core.specs.declared.conf.Conf.{Conf}
use Rattle.smtp_session.specs.declared.dialog.Dialog.{Dialog}
use Rattle.smtp_session.specs.Dialog.{turn}
use Rattle.store_kept.specs.Kept.{store_of}
use Rattle.mail_loop.specs.declared.out.Out.{Out}
use Rattle.mail_loop.specs.Asked.{HaveSealed}
use Rattle.mail_loop.specs.State.{Seats}
use Rattle.mail_loop.specs.Session.{hindered, submits}
use Rattle.mail_loop.specs.Hindrance.{Hindrance, under}
use Rattle.mail_loop.specs.SmtpTurn.{smtp_session, smtp_speech}
use Rattle.mail_loop.specs.Took.{AsksAs, IsAwaitedLast, IsNone, Takes}
use Rattle.mail_loop.proofs.Sealed.{unsealed}
use Rattle.mail_loop.proofs.SmtpTurns.{asks_as_of, awaited_of, line_gives, line_turn, none_due}
use Rattle.mail_loop.proofs.Telling.{lifted}
use Rattle.mail_loop.proofs.smtp_turn.SmtpSessionServes.take_unit.Goals as goal

pub take-requires-clause-free : goal.take-requires-clause-free
take-requires-clause-free g c = none_due c.args.self.now c.requires.free

pub go_on-requires-clause-awaited : goal.go_on-requires-clause-awaited
go_on-requires-clause-awaited g c =
    let d = c.args.self.now in
    let e = c.take.new.self in
    subst (λ (o : Out). IsAwaitedLast smtp_speech o e) (sym c.of_smtp.ensures)
    (awaited_of d c.in-Ok.out e (line_gives c.house.result.now c.conf.result.now c.args.at d e c.args.line c.in-Ok.out (none_due d c.requires.free) c.in-Ok.ensures.ok))

pub go_on-requires-clause-user : goal.go_on-requires-clause-user
go_on-requires-clause-user g c =
    let d = c.args.self.now in
    let e = c.take.new.self in
    subst (λ (o : Out). AsksAs smtp_speech o e) (sym c.of_smtp.ensures)
    (asks_as_of d c.in-Ok.out e (line_gives c.house.result.now c.conf.result.now c.args.at d e c.args.line c.in-Ok.out (none_due d c.requires.free) c.in-Ok.ensures.ok))

pub go_on-requires-clause-home : goal.go_on-requires-clause-home
go_on-requires-clause-home g c = refl

pub returns-in-Ok-clause-turn : goal.returns-in-Ok-clause-turn
returns-in-Ok-clause-turn g c =
    let kept = c.args.desk.now.kept in
    let d = c.args.self.now in
    let e = c.take.new.self in
    let line = c.args.line in
    let house = c.house.result.now in
    let new = c.go_on.new in
    let S = HaveSealed g.D.Disk.told c.args.desk.now new.desk in
    line_turn S c.args.at kept new.desk.kept d e new.session line c.in-Ok.out c.args.reply.now new.reply
    (ap (λ (h : House). turn h (store_of kept).conf c.args.at d line) (sym c.house.ensures.value) ∙ ap (λ (k : Conf). turn house k c.args.at d line) (sym c.conf.ensures) ∙ c.in-Ok.ensures.ok)
    (subst (λ (o : Out). (h : Hindrance) × Takes S (under h c.args.at kept (λ desk. submits smtp_speech desk kept o e)) c.args.reply.now new.desk.kept new.session new.reply) c.of_smtp.ensures c.go_on.ensures.turn)

pub returns-clause-turn : goal.returns-clause-turn
returns-clause-turn g c =
    let desk = c.args.desk.now in
    let new = c.run_out_of_memory.new in
    let (h, takes) =
    subst (λ (d : Dialog). (h : Hindrance) × ((others : Seats) → Takes IsNone (hindered smtp_session h c.args.at desk.kept others d c.args.line) c.args.reply.now desk.kept new.session new.reply)) c.in-Err.ensures.err
    (c.run_out_of_memory.ensures.turn c.args.at desk.kept c.args.line) in (
      h,
      λ others.
          lifted (HaveSealed g.D.Disk.told desk desk) (hindered smtp_session h c.args.at desk.kept others c.args.self.now c.args.line) c.args.reply.now desk.kept new.session new.reply (takes others)
          (unsealed g.D.Disk.told c.seals_join.ensures.nothing desk),
    )
