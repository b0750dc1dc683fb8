use Rattle.std.proofs.Common.{◌≡◌, length}
use Rattle.verb_core.specs.Mailboxes.{uids_rise}
use Rattle.repair_desk.proofs.renewing.in_order.Given as goal

abbrev pub invariant-loop-rest : goal.invariant-loop-rest
invariant-loop-rest l = uids_rise l.low l.rest l.old.next ≡ uids_rise 0 l.old.entries l.old.next

abbrev pub decreases-loop-rest : goal.decreases-loop-rest
decreases-loop-rest l = length l.rest
