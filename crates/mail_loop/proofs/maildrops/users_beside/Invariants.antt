use Rattle.std.proofs.Common.{◌≡◌, ◌++◌, filter_map}
use Rattle.mail_loop.specs.PopTurn.{user_beside}
use Rattle.mail_loop.proofs.maildrops.users_beside.Given as goal

-- the users so far, and those of the connections that are left
abbrev pub invariant-loop-number : goal.invariant-loop-number
invariant-loop-number l = l.users ++ filter_map (user_beside l.conn) l.number-iterator ≡ filter_map (user_beside l.conn) l.connections.entries
