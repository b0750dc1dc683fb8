use Rattle.console_head.proofs.Bounded.{waiting_bounded, head_bounded, body_bounded}
use Rattle.console_head.proofs.laws.what_waits_is_bounded.Goals as goal

pub returns-clause-both : goal.returns-clause-both
returns-clause-both c = waiting_bounded

pub returns-clause-head : goal.returns-clause-head
returns-clause-head c = head_bounded

pub returns-clause-body : goal.returns-clause-body
returns-clause-body c = body_bounded
