use Rattle.replay_crew.proofs.Heard.{resolved_ok}
use Rattle.replay_crew.proofs.resolving.resolve.Goals as goal

pub returns-clause-resolved : goal.returns-clause-resolved
returns-clause-resolved g c =
    resolved_ok c.args.store.now.store c.args.items.now.items c.resolve_over.new.items.items c.resolve_over.result c.requires.formed c.resolve_over.ensures.heard c.resolve_over.ensures.resolved
