use Rattle.std.proofs.Common.{arith}
use Rattle.mail_rows.proofs.room.insert_within.Goals as goal

pub insert-room_is_there-requires : goal.insert-room_is_there-requires
insert-room_is_there-requires g c = omega (arith, c.args.list.now.ok.0, c.requires.place)
