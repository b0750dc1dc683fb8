use Rattle.std.proofs.Common.{◌≡◌, ◌++◌, map, take}
use Rattle.verb_core.specs.declared.mailbox.Entry.{Entry}
use Rattle.time_desk.proofs.cut.push_named.Given as goal

abbrev pub invariant-loop-entry : goal.invariant-loop-entry
invariant-loop-entry l = l.bodies.items ≡ l.initial.bodies.items ++ map (λ (e : Entry). e.body) (take l.entry-index l.entries)
