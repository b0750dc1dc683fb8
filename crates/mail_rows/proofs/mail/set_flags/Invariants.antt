use Rattle.std.proofs.Common.{◌≡◌, drop}
use Rattle.mail_rows.specs.Mail.{all_flags_set}
use Rattle.mail_rows.proofs.mail.set_flags.Given as goal

-- the changes that are left, on the list so far, are all of them on the list at first
abbrev pub invariant-loop-change : goal.invariant-loop-change
invariant-loop-change l = all_flags_set (drop l.change-index l.changes) l.list.items ≡ all_flags_set l.changes l.initial.list.items
