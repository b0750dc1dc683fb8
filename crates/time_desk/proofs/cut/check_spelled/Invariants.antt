use Rattle.std.proofs.Common.{take}
use Rattle.std.specs.List.{AllByRecursion}
use Rattle.verb_core.specs.declared.item.Item.{Item}
use Rattle.verb_bytes.specs.declared.journal.JournalRecord.TheVariants.{Kept}
use Rattle.verb_bytes.specs.Spelling.{HasSpelling}
use Rattle.time_desk.proofs.cut.check_spelled.Given as goal

abbrev pub invariant-loop-item : goal.invariant-loop-item
invariant-loop-item l = AllByRecursion (λ (i : Item). HasSpelling (Kept i)) (take l.item-index l.items)
