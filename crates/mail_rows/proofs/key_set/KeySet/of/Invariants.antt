use Rattle.std.proofs.Common.{◌≡◌, take}
use Rattle.undo_base.specs.declared.keys.Key.{Key}
use Rattle.verb_core.specs.Mailboxes.{is_among}
use Rattle.mail_rows.proofs.key_set.KeySet.of.Given as goal

abbrev pub invariant-loop-key : goal.invariant-loop-key
invariant-loop-key l = (q : Key) → is_among l.set q ≡ is_among (take l.key-index l.keys) q
