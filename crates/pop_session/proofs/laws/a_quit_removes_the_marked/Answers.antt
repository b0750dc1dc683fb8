use Rattle.pop_session.proofs.Removed.{after_live, inbox_after, others_after}
use Rattle.pop_session.proofs.laws.a_quit_removes_the_marked.Goals as goal

pub returns-clause-marked : goal.returns-clause-marked
returns-clause-marked c = inbox_after

pub returns-clause-others : goal.returns-clause-others
returns-clause-others c = others_after

pub returns-clause-done : goal.returns-clause-done
returns-clause-done c = after_live
