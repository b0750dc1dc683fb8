use Rattle.mail_cycle.proofs.Withdrawn.{due_comes, due_texts_come, withdrawal_goes, withdrawal_goes_on, withdrawal_revs}
use Rattle.mail_cycle.proofs.laws.withdrawals_leave_states.Goals as goal

pub returns : goal.returns
returns c = record { goes = withdrawal_goes; due = withdrawal_goes_on; revs = withdrawal_revs; comes = due_comes; texts_come = due_texts_come }
