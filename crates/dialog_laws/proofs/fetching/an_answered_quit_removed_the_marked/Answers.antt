use Rattle.dialog_laws.proofs.Quitting.{quit_leaves}
use Rattle.dialog_laws.proofs.fetching.an_answered_quit_removed_the_marked.Goals as goal

pub returns : goal.returns
returns c = quit_leaves c.a_quit_removes_the_marked.ensures.marked c.a_quit_removes_the_marked.ensures.others c.a_quit_removes_the_marked.ensures.done
