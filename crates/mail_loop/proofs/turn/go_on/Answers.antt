use Rattle.std.proofs.Common.{List, ℕ, false, true≢false, refl, ap, subst, sym, ◌∙◌}
use Rattle.mail_loop.specs.declared.out.Out.{Out}
use Rattle.mail_loop.specs.declared.out.Out.TheVariants.{Submit}
use Rattle.mail_loop.specs.Asked.{HaveSealed}
use Rattle.mail_loop.specs.Turn.{Turn}
use Rattle.mail_loop.specs.Session.{is_said, submits}
use Rattle.mail_loop.specs.Took.{Adds, IsAwaitedLast, IsTold}
use Rattle.mail_loop.specs.Hindrance.{Hindrance, under, service}
use Rattle.mail_loop.proofs.Dialogs.{bye_turn, submits_turn, said_turn}
use Rattle.mail_loop.proofs.Sealed.{unsealed}
use Rattle.mail_loop.proofs.Telling.{lifted_turn}
use Rattle.mail_loop.proofs.turn.go_on.Goals as goal

pub returns-in-Say-clause-turn : goal.returns-in-Say-clause-turn
returns-in-Say-clause-turn g c =
    let speech = g.S.Speaks.speech in
    let desk = c.args.desk.now in
    let d = c.args.session.now in
    let old = c.args.reply.now in
    let new = c.say.new.reply in
    let f : Hindrance → Turn g.row.S.Denot = λ h. under h c.args.at desk.kept (λ service. submits speech service desk.kept c.args.out d) in
    lifted_turn (HaveSealed g.D.Disk.told desk desk) f old desk.kept d new (unsealed g.D.Disk.told c.seals_join.ensures.nothing desk)
    (said_turn c.in-Say.text c.bytes.result.now desk.kept d old new f c.bytes.ensures.value
    (ap (λ (o : Out). submits speech (service c.args.at desk.kept) desk.kept o d) c.in-Say.is) refl c.say.ensures)

pub returns-in-Bye-clause-turn : goal.returns-in-Bye-clause-turn
returns-in-Bye-clause-turn g c =
    let speech = g.S.Speaks.speech in
    let desk = c.args.desk.now in
    let d = c.args.session.now in
    let old = c.args.reply.now in
    let new = c.say-in-Bye.new.reply in
    let f : Hindrance → Turn g.row.S.Denot = λ h. under h c.args.at desk.kept (λ service. submits speech service desk.kept c.args.out d) in
    lifted_turn (HaveSealed g.D.Disk.told desk desk) f old desk.kept d new (unsealed g.D.Disk.told c.seals_join.ensures.nothing desk)
    (bye_turn c.in-Bye.text c.bytes-in-Bye.result.now desk.kept d old new f c.bytes-in-Bye.ensures.value
    (ap (λ (o : Out). submits speech (service c.args.at desk.kept) desk.kept o d) c.in-Bye.is) refl c.say-in-Bye.ensures)

pub returns-clause-turn : goal.returns-clause-turn
returns-clause-turn g c =
    let desk = c.args.desk.now in
    let new = c.submit.new in
    submits_turn g.S.Speaks.speech (HaveSealed g.D.Disk.told desk new.desk) c.args.at desk.kept new.desk.kept c.args.out (Submit c.in-Submit.ask) c.args.session.now new.session c.args.reply.now new.reply c.in-Submit.is c.submit.ensures.turn

-- what is only said changes nothing else
pub returns-in-Say-clause-still : goal.returns-in-Say-clause-still
returns-in-Say-clause-still g c = λ is.
    let told = subst (λ (b : List ℕ). Adds b false c.args.reply.now c.say.new.reply) c.bytes.ensures.value c.say.ensures in
    (refl, refl, subst (λ (o : Out). IsTold o c.args.reply.now c.say.new.reply) (sym c.in-Say.is) told)

pub returns-in-Bye-clause-still : goal.returns-in-Bye-clause-still
returns-in-Bye-clause-still g c = λ is. absurd (true≢false (sym is ∙ ap is_said c.in-Bye.is))

pub returns-in-Read-clause-still : goal.returns-in-Read-clause-still
returns-in-Read-clause-still g c = λ is. absurd (true≢false (sym is ∙ ap is_said c.in-Read.is))

pub returns-clause-still : goal.returns-clause-still
returns-clause-still g c = λ is. absurd (true≢false (sym is ∙ ap is_said c.in-Submit.is))

-- it wants no texts again
pub returns-in-Read-clause-free : goal.returns-in-Read-clause-free
returns-in-Read-clause-free g c = absurd (subst (λ (o : Out). IsAwaitedLast g.S.Speaks.speech o c.args.session.now) c.in-Read.is c.requires.awaited)

pub returns-in-Read-clause-turn : goal.returns-in-Read-clause-turn
returns-in-Read-clause-turn g c = absurd (subst (λ (o : Out). IsAwaitedLast g.S.Speaks.speech o c.args.session.now) c.in-Read.is c.requires.awaited)
