use Rattle.mail_loop.proofs.PopTurns.{found_for}
use Rattle.mail_loop.proofs.maildrops.users_for.Goals as goal

pub returns : goal.returns
returns c seat there = found_for c.args.conn c.args.connections.now.entries seat c.users_beside.result c.users_beside.ensures
