use Rattle.std.proofs.Common.{◌≡◌, take}
use Rattle.verb_core.specs.Boxes.{names_of}
use Rattle.mail_rows.proofs.lookup.names_in.Given as goal

abbrev pub invariant-loop-row : goal.invariant-loop-row
invariant-loop-row l = l.names ≡ names_of l.user (take l.row-index l.rows)
