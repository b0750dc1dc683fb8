use Rattle.std.proofs.Common.{◌≡◌, take}
use Rattle.store_kept.specs.Founding.{entries_of}
use Rattle.mail_desk.specs.Founding.{numbers_named}
use Rattle.mail_desk.proofs.founding.numbers_in.Given as goal

abbrev pub invariant-loop-row : goal.invariant-loop-row
invariant-loop-row l = l.numbers.items ≡ numbers_named (entries_of (take l.row-index l.rows))
