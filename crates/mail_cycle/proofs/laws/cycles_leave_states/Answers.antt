use Rattle.mail_cycle.proofs.Left.{asked_goes, left_below, left_due, left_formed, left_fresh, left_named, left_next, left_revs, left_timeline}
use Rattle.mail_cycle.proofs.laws.cycles_leave_states.Goals as goal

pub returns : goal.returns
returns c = record { formed = left_formed; timeline = left_timeline; below = left_below; revs = left_revs; named = left_named; fresh = left_fresh; next = left_next; due = left_due; goes = asked_goes }
