use Rattle.std.proofs.Common.{◌∙◌, sym, take}
use Rattle.std.proofs.lemmas.List.Folds.{list_any_more}
use Rattle.verb_core.specs.Mailboxes.{same_key}
use Rattle.mail_rows.proofs.Keys.{at_end}
use Rattle.mail_rows.proofs.key_set.KeySet.of.Goals as goal

pub loop-key-preserved : goal.loop-key-preserved
loop-key-preserved c = λ q.
    let keys = c.args.keys.now in
    let i = c.loop-key.key-index in
    c.in_ok-insert.ensures q ∙ at_end q _ c.loop-key.set (take i keys) (c.loop-key.invariant q) ∙ sym (list_any_more (same_key q) keys i _ c.loop-key-test.true)
