use Rattle.host_outside.proofs.sockets.Seat.receive.Goals as goal

pub returns-in-Some-clause-given : goal.returns-in-Some-clause-given
returns-in-Some-clause-given g c count e = (c.in-Some.connection, c.receive.new.self, c.in-Some.is, c.receive.ensures.came count e)
