use Rattle.std.proofs.Common.{◌≡◌, ◌+◌, ◌==◌, drop}
use Rattle.std.specs.List.{position_from}
use Rattle.verb_core.specs.declared.item.Item.{Item}
use Rattle.repair_desk.proofs.point.place_of.Given as goal

abbrev pub invariant-loop-index : goal.invariant-loop-index
invariant-loop-index l = position_from (λ (i : Item). i.number == l.number) 1 l.timeline ≡ position_from (λ (i : Item). i.number == l.number) (l.index + 1) (drop l.index l.timeline)
