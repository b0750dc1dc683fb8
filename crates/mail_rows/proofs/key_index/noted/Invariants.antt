use Rattle.std.proofs.Common.{◌≡◌, take}
use Rattle.undo_base.specs.declared.keys.Key.{Key}
use Rattle.mail_rows.specs.Indexed.{found_at, indexed}
use Rattle.mail_rows.proofs.key_index.noted.Given as goal

abbrev pub invariant-loop-entry : goal.invariant-loop-entry
invariant-loop-entry l = (q : Key) → found_at l.found.entries q ≡ indexed l.fn.keys (take l.entry-index l.entries) q
