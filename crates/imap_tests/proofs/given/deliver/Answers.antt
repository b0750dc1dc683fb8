use Rattle.imap_tests.proofs.given.deliver.Goals as goal

pub perform_this-requires-clause-formed : goal.perform_this-requires-clause-formed
perform_this-requires-clause-formed g c = c.in_ok-item.ensures.formed c.args.store.now.store.house
