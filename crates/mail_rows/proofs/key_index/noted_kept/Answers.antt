use Rattle.std.proofs.Common.{ap, ◌∙◌}
use Rattle.std.specs.BTreeMap.{BTreeMap}
use Rattle.undo_base.specs.declared.keys.Key.{Key}
use Rattle.verb_core.specs.declared.mailbox.Entry.{Entry}
use Rattle.mail_rows.specs.Indexed.{found_at}
use Rattle.mail_rows.proofs.Indexes.{kept_more, left_out}
use Rattle.mail_rows.proofs.key_index.noted_kept.Goals as goal
use Rattle.mail_rows.proofs.key_index.noted_kept.Goals.{then-not-entry+in_ok-note, else-not-entry}

pub loop-entry-preserved : goal.loop-entry-preserved
loop-entry-preserved c = λ q.
    let now : BTreeMap Key Entry → _ = λ found. found_at found.entries q in
    elim c.if-not-entry.branch [
      | then-not-entry+in_ok-note w ↦ ap now w.found-is ∙ kept_more c.args.keys.now c.in_ok-keys.keys c.in_ok-keys.ensures c.args.entries.now c.loop-entry.entry-index _ q _ _ c.loop-entry-test.true w.if-not-entry.true (w.in_ok-note.ensures q) (c.loop-entry.invariant q)
      | else-not-entry w ↦ ap now w.found-is ∙ left_out c.args.keys.now c.args.entries.now c.loop-entry.entry-index _ q _ c.loop-entry-test.true w.if-not-entry.false (c.loop-entry.invariant q)
    ]
