use Rattle.std.proofs.Common.{◌≡◌, take}
use Rattle.std.specs.List.{count_by}
use Rattle.verb_core.specs.declared.item.Item.{Item}
use Rattle.verb_core.specs.Deeds.{is_notice}
use Rattle.mail_desk.proofs.counts.notices_in.Given as goal

abbrev pub invariant-loop-item : goal.invariant-loop-item
invariant-loop-item l = l.count ≡ count_by (λ (i : Item). is_notice i.deed) (take l.item-index l.timeline)
