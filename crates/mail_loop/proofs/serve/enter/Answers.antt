use Rattle.std.proofs.Common.{refl, ap, ◌∙◌}
use Rattle.mail_loop.specs.State.{Seat}
use Rattle.mail_loop.specs.Roles.{row_of}
use Rattle.mail_loop.specs.Machine.{with_new_seat}
use Rattle.mail_loop.proofs.Joining.{fresh_home, home_opened}
use Rattle.mail_loop.proofs.serve.enter.Goals as goal

pub returns-clause-home : goal.returns-clause-home
returns-clause-home c house held =
    let es = c.args.connections.now.entries in
    home_opened house c.args.conn (row_of c.args.role).fresh es c.insert.new.self.entries
    (c.in_ok-before.ensures.entries ∙ ap (λ (s : Seat). with_new_seat c.args.conn s es) c.fresh.ensures) (fresh_home house c.args.role) held

pub returns-clause-opens : goal.returns-clause-opens
returns-clause-opens c = (c.in_ok-before.ensures.entries ∙ ap (λ (s : Seat). with_new_seat c.args.conn s c.args.connections.now.entries) c.fresh.ensures, refl)
