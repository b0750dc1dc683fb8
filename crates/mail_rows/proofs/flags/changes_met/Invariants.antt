use Rattle.std.proofs.Common.{◌≡◌, ◌++◌, drop}
use Rattle.mail_rows.specs.Changes.{changes_from}
use Rattle.mail_rows.proofs.flags.changes_met.Given as goal

-- those found, and those of the entries that are left, are all of them
abbrev pub invariant-loop-place : goal.invariant-loop-place
invariant-loop-place l = l.changes ++ changes_from l.place l.fn.keys l.fn.how l.fn.given (drop l.place l.entries) ≡ changes_from 0 l.fn.keys l.fn.how l.fn.given l.entries
