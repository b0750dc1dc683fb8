use Rattle.std.proofs.Common.{◌≡◌, map, take}
use Rattle.mail_desk.specs.Counting.{bare_item}
use Rattle.mail_desk.proofs.counts.bare_items.Given as goal

abbrev pub invariant-loop-item : goal.invariant-loop-item
invariant-loop-item l = l.copies ≡ map bare_item (take l.item-index l.items)
