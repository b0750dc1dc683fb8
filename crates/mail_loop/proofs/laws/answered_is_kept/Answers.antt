use Rattle.mail_loop.proofs.Courses.{answers_last, notes_append}
use Rattle.mail_loop.proofs.laws.answered_is_kept.Goals as goal

pub returns-clause-kept : goal.returns-clause-kept
returns-clause-kept g c =
    answers_last g.D.Disk.told g.met.D.Disk.tells_truth c.seals_join.ensures.then c.seals_join.ensures.nothing c.crashes_leave_states.ensures.each

pub returns-clause-log : goal.returns-clause-log
returns-clause-log g c before after step s = notes_append before step after s
