use Rattle.std.proofs.Common.{◌≡◌, ◌++◌, take}
use Rattle.mail_desk.specs.Founding.{numbers_named}
use Rattle.mail_desk.proofs.founding.push_numbers.Given as goal

abbrev pub invariant-loop-entry : goal.invariant-loop-entry
invariant-loop-entry l = l.numbers.items ≡ l.initial.numbers.items ++ numbers_named (take l.entry-index l.entries)
