use Rattle.std.proofs.Common.{◌≡◌, ◌++◌, filter, drop}
use Rattle.verb_core.specs.Store.{users_of}
use Rattle.mail_rows.specs.Reaching.{is_among_meanings}
use Rattle.mail_rows.proofs.Reached.{meant_from}
use Rattle.mail_rows.proofs.reach.recipients.Given as goal

-- those found, and those of the users that are left, are all of them
abbrev pub invariant-loop-place : goal.invariant-loop-place
invariant-loop-place l = l.users ++ meant_from l.meanings l.place (drop l.place l.house.accounts) ≡ filter (is_among_meanings l.meanings) (users_of l.house)
