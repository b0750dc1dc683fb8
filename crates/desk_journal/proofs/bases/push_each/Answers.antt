use Rattle.desk_journal.proofs.Once.{held_next}
use Rattle.desk_journal.proofs.bases.push_each.Goals as goal

pub loop-entry-preserved : goal.loop-entry-preserved
loop-entry-preserved c =
    held_next c.args.user c.args.entries.now c.loop-entry.entry-index _ c.args.keys.now.items c.loop-entry.keys.items c.push_key.new.keys.items c.loop-entry-test.true c.loop-entry.invariant c.in_ok-push_key.ensures
