use Rattle.std.proofs.Common.{arith}
use Rattle.box_store.proofs.SpareLaws.{set_here, set_earlier}
use Rattle.box_store.proofs.spares.Spares.make_larger.Goals as goal

pub returns-in_ok-self-inside-clause-room : goal.returns-in_ok-self-inside-clause-room
returns-in_ok-self-inside-clause-room c =
    set_here _ c.self.inside.lists.items c.args.place c.in_ok-self-inside.field-0 c.args.self.now c.args.count c.self.view_is c.requires.place (omega (arith, c.in_ok-self-inside.ensures.capacity))

pub returns-in_ok-self-inside-clause-earlier : goal.returns-in_ok-self-inside-clause-earlier
returns-in_ok-self-inside-clause-earlier c = set_earlier _ c.self.inside.lists.items c.args.place c.in_ok-self-inside.field-0 c.args.self.now c.self.view_is
