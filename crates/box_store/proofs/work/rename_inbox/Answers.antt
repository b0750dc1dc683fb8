use Rattle.verb_core.specs.Names.{inbox}
use Rattle.verb_core.proofs.Moves.{rising-left}
use Rattle.box_store.proofs.work.rename_inbox.Goals as goal

pub put_row-requires-clause-rising : goal.put_row-requires-clause-rising
put_row-requires-clause-rising c = rw c.leave-mailbox.ensures.rows (rising-left c.args.user inbox c.args.rows.now.items c.requires.rising)
