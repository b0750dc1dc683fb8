use Rattle.std.proofs.Common.{◌≡◌, map, take}
use Rattle.verb_core.specs.declared.mailbox.Entry.{Entry}
use Rattle.store_kept.specs.Founding.{entries_of}
use Rattle.store_kept.proofs.texts.bodies_in.Given as goal

abbrev pub invariant-loop-row : goal.invariant-loop-row
invariant-loop-row l = l.bodies.items ≡ map (λ (e : Entry). e.body) (entries_of (take l.row-index l.rows))
