use Rattle.std.proofs.Common.{◌≡◌, length}
use Rattle.verb_core.specs.Mailboxes.{uids_rise}
use Rattle.box_store.proofs.rows.uids_rise.Given as goal

abbrev pub invariant-loop-rest : goal.invariant-loop-rest
invariant-loop-rest l = uids_rise l.low l.rest l.next ≡ uids_rise 0 l.entries l.next

abbrev pub decreases-loop-rest : goal.decreases-loop-rest
decreases-loop-rest l = length l.rest
