use Rattle.std.proofs.Common.{subst, sym}
use Rattle.mail_loop.specs.declared.out.Out.{Out}
use Rattle.mail_loop.specs.Asked.{HaveSealed}
use Rattle.mail_loop.specs.Session.{followed}
use Rattle.mail_loop.specs.Hindrance.{Hindrance, under}
use Rattle.mail_loop.specs.PopTurn.{pop_speech}
use Rattle.mail_loop.specs.Took.{AreThere, AsksAs, IsNext, Takes}
use Rattle.mail_loop.proofs.PopTurns.{asks_as_of, next_of, reading_of, textless_line}
use Rattle.mail_loop.proofs.Sealed.{unsealed}
use Rattle.mail_loop.proofs.pop_turn.obey.Goals as goal

pub follow-requires-clause-awaited : goal.follow-requires-clause-awaited
follow-requires-clause-awaited g c = subst (λ (o : Out). IsNext pop_speech o c.args.session.now) (sym c.in-Ok.ensures.ok) (next_of c.args.out c.args.session.now c.requires.next)

pub follow-requires-clause-user : goal.follow-requires-clause-user
follow-requires-clause-user g c = subst (λ (o : Out). AsksAs pop_speech o c.args.session.now) (sym c.in-Ok.ensures.ok) (asks_as_of c.args.out c.args.session.now c.requires.user)

pub follow-requires-clause-there : goal.follow-requires-clause-there
follow-requires-clause-there g c = subst (λ (o : Out). AreThere c.args.desk.now.kept o) (sym c.in-Ok.ensures.ok) c.requires.there

pub read_out_of_memory-requires-clause-reading : goal.read_out_of_memory-requires-clause-reading
read_out_of_memory-requires-clause-reading g c = reading_of c.args.out c.args.session.now c.in-Err.ensures.err c.requires.next

pub returns-in-Ok-clause-turn : goal.returns-in-Ok-clause-turn
returns-in-Ok-clause-turn g c =
    let new = c.follow.new in
    let kept = c.args.desk.now.kept in
    subst (λ (o : Out). (h : Hindrance) × Takes (HaveSealed g.D.Disk.told c.args.desk.now new.desk) (under h c.args.at kept (λ desk. followed pop_speech desk kept o c.args.session.now)) c.args.reply.now new.desk.kept new.session new.reply)
    c.in-Ok.ensures.ok c.follow.ensures.turn

pub returns-in-Err-clause-turn : goal.returns-in-Err-clause-turn
returns-in-Err-clause-turn g c =
    let desk = c.args.desk.now in
    let new = c.read_out_of_memory.new in
    textless_line (HaveSealed g.D.Disk.told desk desk) c.args.at desk.kept c.args.out c.args.session.now new.session c.args.reply.now new.reply c.in-Err.ensures.err c.requires.next
    (unsealed g.D.Disk.told c.seals_join.ensures.nothing desk) (c.read_out_of_memory.ensures.read desk.kept)
