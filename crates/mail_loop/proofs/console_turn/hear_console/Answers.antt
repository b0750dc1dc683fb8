use Rattle.std.proofs.Common.{subst, sym}
use Rattle.mail_loop.specs.declared.reply.Turned.{Turned}
use Rattle.mail_loop.specs.Asked.{HaveSealed}
use Rattle.mail_loop.specs.State.{Http}
use Rattle.mail_loop.proofs.ConsoleTurns.{console_heard, console_house}
use Rattle.mail_loop.proofs.Stretch.{HeardAlone}
use Rattle.mail_loop.proofs.console_turn.hear_console.Goals as goal

pub returns-clause-heard : goal.returns-clause-heard
returns-clause-heard g c seats =
    let told = g.D.Disk.told in
    let old = c.args.desk.now in
    let hear = c.hear-answer in
    subst (λ (t : Turned). HeardAlone (HaveSealed told old hear.new.desk) c.args.at old.kept seats c.args.conn (Http c.args.console.now) c.args.bytes.now t hear.new.desk.kept (Http hear.new.self)) (sym c.turned_of.ensures)
    (console_heard told c.seals_join.ensures.nothing c.args.at c.args.console.now hear.new.self c.args.bytes.now c.args.conn seats old hear.new.desk hear.result hear.ensures.heard hear.ensures.waits)

pub returns-clause-house : goal.returns-clause-house
returns-clause-house g c =
    let hear = c.hear-answer in
    console_house g.D.Disk.told c.args.at c.args.console.now c.args.bytes.now c.args.desk.now hear.new.desk hear.result hear.ensures.heard
