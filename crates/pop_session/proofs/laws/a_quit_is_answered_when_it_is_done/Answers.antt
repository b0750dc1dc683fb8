use Rattle.pop_session.proofs.Quits.{asks_both, none_at_once, not_before}
use Rattle.pop_session.proofs.laws.a_quit_is_answered_when_it_is_done.Goals as goal

pub returns-clause-asks : goal.returns-clause-asks
returns-clause-asks c = asks_both

pub returns-clause-at_once : goal.returns-clause-at_once
returns-clause-at_once c = none_at_once

pub returns-clause-late : goal.returns-clause-late
returns-clause-late c = not_before
