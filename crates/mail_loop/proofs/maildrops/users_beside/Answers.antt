use Rattle.std.proofs.Common.{◌++◌, append-nil, ap, filter_map, sym, ◌∙◌}
use Rattle.mail_loop.specs.PopTurn.{user_beside}
use Rattle.mail_loop.specs.State.{Seats}
use Rattle.mail_loop.proofs.PopTurns.{passed_over}
use Rattle.mail_loop.proofs.maildrops.users_beside.Goals as goal

pub returns : goal.returns
returns c =
    let l = c.loop-number in
    sym (append-nil l.users)
    ∙ ap (λ (rest : Seats). l.users ++ filter_map (user_beside c.args.conn) rest) (sym c.in-None.ensures.steps.0)
    ∙ l.invariant ∙ passed_over c.args.conn c.args.connections.now.entries
