use Rattle.std.proofs.Common.{refl}
use Rattle.smtp_session.specs.Dialog.{turn}
use Rattle.smtp_session.proofs.Holding.{held_small}
use Rattle.smtp_session.proofs.Stays.{after_call, asks_of_call, asks_turn, small_turn}
use Rattle.smtp_session.proofs.session.SmtpSession.take.Goals as goal

pub invariant_of-self : goal.invariant_of-self
invariant_of-self c =
    let small = after_call c.take_line.result (turn c.args.house.now c.args.conf.now c.args.at c.self.inside.dialog c.args.line.now) c.self.inside.dialog
    c.take_line.new.dialog c.take_line.ensures.ok c.take_line.ensures.err
    (small_turn c.args.house.now c.args.conf.now c.args.at c.self.inside.dialog c.args.line.now c.self.invariant.0) c.self.invariant.0 in
    (small, λ other. refl)

pub returns-clause-within : goal.returns-clause-within
returns-clause-within c =
    asks_of_call c.take_line.result (turn c.args.house.now c.args.conf.now c.args.at c.self.inside.dialog c.args.line.now)
    c.take_line.new.dialog c.take_line.ensures.ok
    (asks_turn c.args.house.now c.args.conf.now c.args.at c.self.inside.dialog c.args.line.now c.bytes-host.ensures.name.most c.requires.moment c.self.invariant.0)

pub returns-clause-held : goal.returns-clause-held
returns-clause-held c =
    held_small c.take_line.new.dialog (
    after_call c.take_line.result (turn c.args.house.now c.args.conf.now c.args.at c.self.inside.dialog c.args.line.now) c.self.inside.dialog
    c.take_line.new.dialog c.take_line.ensures.ok c.take_line.ensures.err
    (small_turn c.args.house.now c.args.conf.now c.args.at c.self.inside.dialog c.args.line.now c.self.invariant.0) c.self.invariant.0)
