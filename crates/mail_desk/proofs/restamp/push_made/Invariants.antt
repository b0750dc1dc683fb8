use Rattle.std.proofs.Common.{◌≡◌, ◌++◌, map}
use Rattle.mail_desk.specs.declared.restamp.StampChange.TheVariants.{Made}
use Rattle.mail_desk.proofs.restamp.push_made.Given as goal

-- the changes so far and those of the names that are left are all of them
abbrev pub invariant-loop-name : goal.invariant-loop-name
invariant-loop-name l = l.list.items ++ map Made l.name-iterator.rest.items ≡ l.initial.list.items ++ map Made l.fn.names.items
