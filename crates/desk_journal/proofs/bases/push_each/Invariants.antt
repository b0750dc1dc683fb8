use Rattle.std.proofs.Common.{◌≡◌, ◌++◌, map, take}
use Rattle.verb_core.specs.declared.mailbox.Entry.{Entry}
use Rattle.desk_journal.proofs.bases.push_each.Given as goal

abbrev pub invariant-loop-entry : goal.invariant-loop-entry
invariant-loop-entry l = l.keys.items ≡ l.initial.keys.items ++ map (λ (e : Entry). (l.user, e.key)) (take l.entry-index l.entries)
