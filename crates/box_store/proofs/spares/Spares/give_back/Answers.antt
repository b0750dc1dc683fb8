use Rattle.box_store.proofs.SpareLaws.{set_later}
use Rattle.box_store.proofs.spares.Spares.give_back.Goals as goal

pub returns-clause-later : goal.returns-clause-later
returns-clause-later c = set_later _ c.self.inside.lists.items c.args.place c.args.list c.args.self.now c.self.view_is
