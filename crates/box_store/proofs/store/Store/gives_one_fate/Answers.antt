use Rattle.box_store.proofs.store.Store.gives_one_fate.Goals as goal

pub returns-clause-single : goal.returns-clause-single
returns-clause-single c = c.messages_have_one_fate.ensures.single c.args.self.now.store c.args.item.now c.requires.valid c.requires.formed c.requires.fresh c.requires.once
