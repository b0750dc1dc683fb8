use Rattle.mail_desk.specs.Noting.{Knows}
use Rattle.mail_desk.proofs.noting.shelved.Given as goal

abbrev pub invariant-loop-row : goal.invariant-loop-row
invariant-loop-row l = Knows l.shelf.notes l.rows l.row-index
