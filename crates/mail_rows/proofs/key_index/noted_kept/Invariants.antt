use Rattle.std.proofs.Common.{◌≡◌, take, filter}
use Rattle.undo_base.specs.declared.keys.Key.{Key}
use Rattle.mail_rows.specs.Indexed.{found_at, indexed, no_deleted}
use Rattle.mail_rows.proofs.key_index.noted_kept.Given as goal

abbrev pub invariant-loop-entry : goal.invariant-loop-entry
invariant-loop-entry l = (q : Key) → found_at l.found.entries q ≡ indexed l.fn.keys (filter no_deleted (take l.entry-index l.entries)) q
