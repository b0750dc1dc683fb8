use Rattle.std.proofs.Common.{refl}
use Rattle.host_outside.proofs.sockets.Seat.send.Goals as goal

pub returns-in-Some : goal.returns-in-Some
returns-in-Some g c e = record {
  old = c.in-Some.connection;
  new = c.send.new.self;
  sat = c.in-Some.is;
  sits = refl;
  whole = c.send.ensures.whole e;
  stays = c.send.ensures.stays;
}
