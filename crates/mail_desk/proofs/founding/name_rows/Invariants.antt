use Rattle.std.proofs.Common.{◌≡◌, drop}
use Rattle.mail_desk.specs.Founding.{are_stamps_of}
use Rattle.mail_desk.proofs.founding.name_rows.Given as goal

abbrev pub invariant-loop-row : goal.invariant-loop-row
invariant-loop-row l = are_stamps_of l.left (drop l.row-index l.rows) ≡ are_stamps_of l.stamps l.rows
