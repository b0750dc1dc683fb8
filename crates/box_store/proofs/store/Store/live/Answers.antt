use Rattle.box_store.proofs.Answered.{due-live, item-live, item-formed}
use Rattle.box_store.proofs.store.Store.live.Goals as goal

pub returns-in-Some-clause-refused : goal.returns-in-Some-clause-refused
returns-in-Some-clause-refused c = due-live c.args.self.now.store c.requires.valid c.args.number c.args.at c.args.by c.args.ask c.args.deep c.in-Some.refused c.in-Some.ensures.some

pub returns-in-Ok-clause-item : goal.returns-in-Ok-clause-item
returns-in-Ok-clause-item c = item-live c.args.self.now.store c.requires.valid c.args.number c.args.at c.args.by c.args.ask c.args.deep c.in-Ok.item c.in-None.ensures.none c.in-Ok.ensures

pub returns-in-Ok-clause-formed : goal.returns-in-Ok-clause-formed
returns-in-Ok-clause-formed c =
    item-formed c.args.self.now.store c.requires.valid c.args.number c.args.at c.args.by c.args.ask c.args.deep c.in-Ok.item c.in-None.ensures.none c.requires.by c.requires.known c.in-Ok.ensures
