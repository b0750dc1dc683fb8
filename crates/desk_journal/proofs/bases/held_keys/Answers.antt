use Rattle.desk_journal.proofs.Once.{keys_next}
use Rattle.desk_journal.proofs.bases.held_keys.Goals as goal

pub loop-row-preserved : goal.loop-row-preserved
loop-row-preserved c =
    keys_next c.args.rows.now c.loop-row.row-index c.row-item.result c.loop-row.keys.items c.push_keys.new.keys.items c.loop-row-test.true c.row-item.is c.loop-row.invariant c.in_ok-push_keys.ensures
