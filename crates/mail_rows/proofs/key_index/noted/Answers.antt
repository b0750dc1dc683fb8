use Rattle.mail_rows.proofs.Indexes.{indexed_more}
use Rattle.mail_rows.proofs.key_index.noted.Goals as goal

pub loop-entry-preserved : goal.loop-entry-preserved
loop-entry-preserved c = λ q. indexed_more c.args.keys.now c.in_ok-keys.keys c.in_ok-keys.ensures c.args.entries.now c.loop-entry.entry-index _ q _ _ c.loop-entry-test.true (c.in_ok-note.ensures q) (c.loop-entry.invariant q)
