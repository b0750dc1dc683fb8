use Rattle.std.proofs.Common.{◌≡◌, take}
use Rattle.desk_journal.specs.Once.{keys_held}
use Rattle.desk_journal.proofs.bases.held_keys.Given as goal

abbrev pub invariant-loop-row : goal.invariant-loop-row
invariant-loop-row l = l.keys.items ≡ keys_held (take l.row-index l.rows)
